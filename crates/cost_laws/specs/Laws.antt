-- The laws of costs, over every order and operator.
use Rattle.std.specs.Prelude.{◌≡◌, Bool, true, false, Option, Some, None, IfSome, ℤ, ◌≤ℤ◌, refl}
use Rattle.std.proofs.Common.{arith, ap}
use Rattle.std.proofs.lemmas.Int.{ints, clamps}
use Rattle.dp_model.specs.Costs.{InRange, operation, join, join_onto, order_word}
use Rattle.dp_model.specs.declared.parts.JoinOp.{JoinOp}
use Rattle.dp_model.specs.declared.parts.JoinOp.TheVariants.{Plus, Most, Least}
use Rattle.cost_laws.specs.Orders.{InWideRange, IsOrdered, IsAssociative, HasUnit, IsIsotoneBefore, IsIsotoneAfter, IsBetterByWord}

operation_associative : (op : JoinOp) (a b c : ℤ) → operation op (operation op a b) c ≡ operation op a (operation op b c)
operation_associative Plus a b c = omega (arith, ints)
operation_associative Most a b c = omega (arith, ints, clamps)
operation_associative Least a b c = omega (arith, ints, clamps)

operation_comm : (op : JoinOp) (a b : ℤ) → operation op a b ≡ operation op b a
operation_comm Plus a b = omega (arith, ints)
operation_comm Most a b = omega (arith, ints, clamps)
operation_comm Least a b = omega (arith, ints, clamps)

pub associative : (op : JoinOp) → IsAssociative op
associative op None b c = refl
associative op (Some a) None c = refl
associative op (Some a) (Some b) None = refl
associative op (Some a) (Some b) (Some c) = ap Some (operation_associative op a b c)

pub unit : (op : JoinOp) → HasUnit op
unit op None = (refl, refl)
unit op (Some a) = (refl, refl)

-- it does not matter which cost comes first
pub join_comm : (op : JoinOp) (a b : Option ℤ) → join op a b ≡ join op b a
join_comm op None None = refl
join_comm op None (Some b) = refl
join_comm op (Some a) None = refl
join_comm op (Some a) (Some b) = ap Some (operation_comm op a b)

-- ---- order

joined_with_number : (minimize : Bool) (op : JoinOp) (a b : Option ℤ) (c : ℤ) → IsOrdered op a → IsOrdered op b → IsOrdered op (Some c) → order_word minimize op a ≤ℤ order_word minimize op b → order_word minimize op (join op a (Some c)) ≤ℤ order_word minimize op (join op b (Some c))
joined_with_number true Plus None None c p q r h = omega (arith, ints)
joined_with_number true Plus None (Some b) c p q r h = omega (arith, ints)
joined_with_number true Plus (Some a) None c p q r h = omega (arith, ints)
joined_with_number true Plus (Some a) (Some b) c p q r h = omega (arith, ints)
joined_with_number true Most None None c p q r h = omega (arith, ints)
joined_with_number true Most None (Some b) c p q r h = omega (arith, ints, clamps)
joined_with_number true Most (Some a) None c p q r h = omega (arith, ints, clamps)
joined_with_number true Most (Some a) (Some b) c p q r h = omega (arith, ints, clamps)
joined_with_number true Least None None c p q r h = omega (arith, ints)
joined_with_number true Least None (Some b) c p q r h = omega (arith, ints, clamps)
joined_with_number true Least (Some a) None c p q r h = omega (arith, ints, clamps)
joined_with_number true Least (Some a) (Some b) c p q r h = omega (arith, ints, clamps)
joined_with_number false Plus None None c p q r h = omega (arith, ints)
joined_with_number false Plus None (Some b) c p q r h = omega (arith, ints)
joined_with_number false Plus (Some a) None c p q r h = omega (arith, ints)
joined_with_number false Plus (Some a) (Some b) c p q r h = omega (arith, ints)
joined_with_number false Most None None c p q r h = omega (arith, ints)
joined_with_number false Most None (Some b) c p q r h = omega (arith, ints, clamps)
joined_with_number false Most (Some a) None c p q r h = omega (arith, ints, clamps)
joined_with_number false Most (Some a) (Some b) c p q r h = omega (arith, ints, clamps)
joined_with_number false Least None None c p q r h = omega (arith, ints)
joined_with_number false Least None (Some b) c p q r h = omega (arith, ints, clamps)
joined_with_number false Least (Some a) None c p q r h = omega (arith, ints, clamps)
joined_with_number false Least (Some a) (Some b) c p q r h = omega (arith, ints, clamps)

pub isotone_before : (minimize : Bool) (op : JoinOp) → IsIsotoneBefore minimize op
isotone_before minimize op a b None p q r h = rw ((unit op a).1, (unit op b).1) h
isotone_before minimize op a b (Some c) p q r h = joined_with_number minimize op a b c p q r h

pub isotone_after : (minimize : Bool) (op : JoinOp) → IsIsotoneAfter minimize op
isotone_after minimize op a b c p q r h = rw (join_comm op c a, join_comm op c b) (isotone_before minimize op a b c p q r h)

pub better_by_word : (minimize : Bool) (op : JoinOp) → IsBetterByWord minimize op
better_by_word true Plus a b = (λ h. omega (arith, ints), λ h. omega (arith, ints))
better_by_word true Most a b = (λ h. omega (arith, ints), λ h. omega (arith, ints))
better_by_word true Least a b = (λ h. omega (arith, ints), λ h. omega (arith, ints))
better_by_word false Plus a b = (λ h. omega (arith, ints), λ h. omega (arith, ints))
better_by_word false Most a b = (λ h. omega (arith, ints), λ h. omega (arith, ints))
better_by_word false Least a b = (λ h. omega (arith, ints), λ h. omega (arith, ints))

-- ---- ranges

pub in_wide_range : (n : ℤ) → InRange n → InWideRange n
in_wide_range n p = (omega (arith, ints), omega (arith, ints))

pub widened : (a : Option ℤ) → IfSome a InRange → IfSome a InWideRange
widened None p = tt
widened (Some a) p = in_wide_range a p

pub ordered : (op : JoinOp) (a : Option ℤ) → IfSome a InRange → IsOrdered op a
ordered Plus a p = tt
ordered Most a p = widened a p
ordered Least a p = widened a p

operation_wide : (op : JoinOp) (a b : ℤ) → InRange a → InRange b → InWideRange (operation op a b)
operation_wide Plus a b p q = (omega (arith, ints), omega (arith, ints))
operation_wide Most a b p q = (omega (arith, ints, clamps), omega (arith, ints, clamps))
operation_wide Least a b p q = (omega (arith, ints, clamps), omega (arith, ints, clamps))

-- the join of two costs of a model has an order word
pub join_wide : (op : JoinOp) (a b : Option ℤ) → IfSome a InRange → IfSome b InRange → IfSome (join op a b) InWideRange
join_wide op None b p q = widened b q
join_wide op (Some a) None p q = in_wide_range a p
join_wide op (Some a) (Some b) p q = operation_wide op a b p q

-- a cost so far joined with a number is a number
pub join_number : (op : JoinOp) (a : Option ℤ) (b : ℤ) → join op a (Some b) ≡ Some (join_onto op a b)
join_number op None b = refl
join_number op (Some a) b = refl
