-- Which numbers have an order word, what the joins of costs keep, and when a law of costs is that of a model.
use Rattle.std.specs.Prelude.{◌≡◌, ◌↔◌, Bool, Option, Some, None, IfSome, ℤ, pos, neg_ℤ, ◌≤ℤ◌, ◌<ℤ◌}
use Rattle.dp_model.specs.Costs.{IsBetter, join, order_word}
use Rattle.dp_model.specs.declared.parts.JoinOp.{JoinOp}
use Rattle.dp_model.specs.declared.parts.JoinOp.TheVariants.{Plus, Most, Least}
use Rattle.dp_model.specs.declared.whole.Model.{Model}

-- 2^63 - 2
abbrev pub widest : ℤ
widest = pos 9223372036854775806

-- the numbers whose order words have 64 bits and are below 2^64 - 1, which stands for no incumbent
abbrev pub InWideRange : ℤ → Type 0
InWideRange n = (neg_ℤ widest ≤ℤ n) × (n ≤ℤ widest)

-- The costs over which a join keeps their order: all whole numbers under `+`, whose words are read without limit, and the
-- numbers of the wide range under `max` and `min`; `None` each time.
abbrev pub IsOrdered : JoinOp → Option ℤ → Type 0
IsOrdered Plus c = Unit {0}
IsOrdered Most c = IfSome c InWideRange
IsOrdered Least c = IfSome c InWideRange

-- costs are joined in any order
abbrev pub IsAssociative : JoinOp → Type 0
IsAssociative op = (a b c : Option ℤ) → join op (join op a b) c ≡ join op a (join op b c)

-- no cost is the unit
abbrev pub HasUnit : JoinOp → Type 0
HasUnit op = (a : Option ℤ) → (join op None a ≡ a) × (join op a None ≡ a)

-- of two costs the one that is no worse stays so, whatever both are joined onto
abbrev pub IsIsotoneBefore : Bool → JoinOp → Type 0
IsIsotoneBefore minimize op =
    (a b c : Option ℤ) → IsOrdered op a → IsOrdered op b → IsOrdered op c → order_word minimize op a ≤ℤ order_word minimize op b → order_word minimize op (join op a c) ≤ℤ order_word minimize op (join op b c)

-- and whatever is joined onto both
abbrev pub IsIsotoneAfter : Bool → JoinOp → Type 0
IsIsotoneAfter minimize op =
    (a b c : Option ℤ) → IsOrdered op a → IsOrdered op b → IsOrdered op c → order_word minimize op a ≤ℤ order_word minimize op b → order_word minimize op (join op c a) ≤ℤ order_word minimize op (join op c b)

-- the better of two costs has the lesser word
abbrev pub IsBetterByWord : Bool → JoinOp → Type 0
IsBetterByWord minimize op = (a b : ℤ) → IsBetter minimize a b ↔ (order_word minimize op (Some a) <ℤ order_word minimize op (Some b))

-- the law with this order and this operator is that of the model
abbrev pub IsLawOf : Model → Bool → JoinOp → Type 0
IsLawOf m minimize operator = (minimize ≡ m.minimize) × (operator ≡ m.join)
