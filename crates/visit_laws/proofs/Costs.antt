-- Costs in range, and joined costs.
use Rattle.std.proofs.Common.{◌≡◌, Bool, true, false, cond, Option, Some, None, Ok, Err, ℤ, refl, arith}
use Rattle.std.specs.Prelude.{neg_ℤ, int_le}
use Rattle.std.proofs.lemmas.Bool.{and_parts, and_from}
use Rattle.std.proofs.lemmas.Int.{ints}
use Rattle.dp_model.specs.Costs.{InRange, greatest, join, join_onto, ranged}
use Rattle.dp_model.specs.Typing.{is_in_range}
use Rattle.dp_model.specs.declared.answers.FaultKind.TheVariants.{Range}
use Rattle.dp_model.specs.declared.parts.JoinOp.{JoinOp}

in_range : (n : ℤ) → is_in_range n ≡ true → InRange n
in_range n h =
    let p = and_parts (int_le (neg_ℤ greatest) n) (int_le n greatest) h in
    let low = p.0 in
    let high = p.1 in
    (grind (arith, ints), grind (arith, ints))

tested : (n : ℤ) → InRange n → is_in_range n ≡ true
tested n h =
    let low = h.0 in
    let high = h.1 in
    let a : int_le (neg_ℤ greatest) n ≡ true = grind (arith, ints) in
    let b : int_le n greatest ≡ true = grind (arith, ints) in
    and_from (int_le (neg_ℤ greatest) n) (int_le n greatest) a b

ranged_if : (n x : ℤ) (b : Bool) → is_in_range n ≡ b → cond b (Ok n) (Err Range) ≡ Ok x → InRange n × (x ≡ n)
ranged_if n x true q e = (in_range n q, cc)
ranged_if n x false q e = absurd (cc)

-- a number that passes the test is in range and the same
pub ranged_value : (n x : ℤ) → ranged n ≡ Ok x → InRange n × (x ≡ n)
ranged_value n x e = ranged_if n x (is_in_range n) refl e

pub value_ranged : (n : ℤ) → InRange n → ranged n ≡ Ok n
value_ranged n h = rw (tested n h) refl

pub join_some : (op : JoinOp) (cost : Option ℤ) (n : ℤ) → join op cost (Some n) ≡ Some (join_onto op cost n)
join_some op None n = refl
join_some op (Some a) n = refl

pub join_none : (op : JoinOp) (cost : Option ℤ) → join op cost None ≡ cost
join_none op None = refl
join_none op (Some a) = refl
