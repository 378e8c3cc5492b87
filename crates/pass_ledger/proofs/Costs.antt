-- The laws of costs that the proofs need.
use Rattle.std.specs.Prelude.{◌≡◌, ◌⊎◌, Bool, true, false, Option, Some, None, ℤ, ◌≤ℤ◌, IfSome, refl}
use Rattle.std.proofs.Common.{arith, inl, inr}
use Rattle.std.proofs.lemmas.Int.{ints, clamps, by_lt_z}
use Rattle.dp_model.specs.Costs.{InRange, IsBetter, order_word, join, join_onto, operation}
use Rattle.dp_model.specs.declared.parts.JoinOp.{JoinOp}
use Rattle.dp_model.specs.declared.parts.JoinOp.TheVariants.{Plus, Most, Least}

operation_associative : (op : JoinOp) (a b c : ℤ) → operation op (operation op a b) c ≡ operation op a (operation op b c)
operation_associative Plus a b c = omega (arith, ints)
operation_associative Most a b c = omega (arith, ints, clamps)
operation_associative Least a b c = omega (arith, ints, clamps)

pub assoc : (op : JoinOp) (c w : Option ℤ) (v : ℤ) → join_onto op (join op c w) v ≡ join_onto op c (join_onto op w v)
assoc op None w v = refl
assoc op (Some c) None v = refl
assoc op (Some c) (Some w) v = operation_associative op c w v

pub isotone : (minimize : Bool) (op : JoinOp) (a b : Option ℤ) (v w : ℤ) → IfSome a InRange → IfSome b InRange → order_word minimize op a ≤ℤ order_word minimize op b → order_word minimize op (Some v) ≤ℤ order_word minimize op (Some w)
    → order_word minimize op (Some (join_onto op a v)) ≤ℤ order_word minimize op (Some (join_onto op b w))
isotone true Plus None None v w p q h k = k
isotone true Plus None (Some b) v w p q h k = omega (arith, ints)
isotone true Plus (Some a) None v w p q h k = omega (arith, ints)
isotone true Plus (Some a) (Some b) v w p q h k = omega (arith, ints)
isotone false Plus None None v w p q h k = k
isotone false Plus None (Some b) v w p q h k = omega (arith, ints)
isotone false Plus (Some a) None v w p q h k = omega (arith, ints)
isotone false Plus (Some a) (Some b) v w p q h k = omega (arith, ints)
isotone true Most None None v w p q h k = k
isotone true Most None (Some b) v w p q h k = omega (arith, ints, clamps)
isotone true Most (Some a) None v w p q h k = omega (arith, ints, clamps, p.0)
isotone true Most (Some a) (Some b) v w p q h k = omega (arith, ints, clamps)
isotone false Most None None v w p q h k = k
isotone false Most None (Some b) v w p q h k = omega (arith, ints, clamps, q.1)
isotone false Most (Some a) None v w p q h k = omega (arith, ints, clamps, p.1)
isotone false Most (Some a) (Some b) v w p q h k = omega (arith, ints, clamps)
isotone true Least None None v w p q h k = k
isotone true Least None (Some b) v w p q h k = omega (arith, ints, clamps, q.1)
isotone true Least (Some a) None v w p q h k = omega (arith, ints, clamps)
isotone true Least (Some a) (Some b) v w p q h k = omega (arith, ints, clamps)
isotone false Least None None v w p q h k = k
isotone false Least None (Some b) v w p q h k = omega (arith, ints, clamps)
isotone false Least (Some a) None v w p q h k = omega (arith, ints, clamps, p.0)
isotone false Least (Some a) (Some b) v w p q h k = omega (arith, ints, clamps)

pub least_trans : (a b c : ℤ) → a ≤ℤ b → b ≤ℤ c → a ≤ℤ c
least_trans a b c h k = omega (arith, ints)

pub self : (a : ℤ) → a ≤ℤ a
self a = omega (arith, ints)

-- a cost that is not better has no lesser word, and the other way round
pub no_better_word : (minimize : Bool) (op : JoinOp) (v b : ℤ) → (IsBetter minimize v b → ⊥) → order_word minimize op (Some b) ≤ℤ order_word minimize op (Some v)
no_better_word true op v b far = by_lt_z v b (λ lt. absurd (far lt)) (λ le. omega (arith, ints, le))
no_better_word false op v b far = by_lt_z b v (λ lt. absurd (far lt)) (λ le. omega (arith, ints, le))

pub either : (a b : ℤ) → (a ≤ℤ b) ⊎ (b ≤ℤ a)
either a b = by_lt_z a b (λ lt. inl (omega (arith, ints, lt))) (λ le. inr le)
