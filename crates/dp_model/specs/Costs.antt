-- Numbers and their range, and costs: which is better, how they are joined, and the order of costs so far.
use Rattle.std.specs.Prelude.{Bool, true, false, ◌&&◌, if◌then◌else◌, Option, Some, None, Result, Ok, Err, ℤ, pos, neg_ℤ, ◌+ℤ◌, ◌-ℤ◌, ◌≤ℤ◌, ◌<ℤ◌, int_le}
use Rattle.std.specs.Int.{int_min, int_max}
use Rattle.dp_model.specs.declared.answers.FaultKind.{FaultKind}
use Rattle.dp_model.specs.declared.answers.FaultKind.TheVariants as faults
use Rattle.dp_model.specs.declared.parts.JoinOp.{JoinOp}
use Rattle.dp_model.specs.declared.parts.JoinOp.TheVariants.{Plus, Most, Least}

-- 2^62 - 1: every number of a model and every result lies between its negative and it
abbrev pub greatest : ℤ
greatest = pos 4611686018427387903

abbrev pub InRange : ℤ → Type 0
InRange n = (neg_ℤ greatest ≤ℤ n) × (n ≤ℤ greatest)

-- a result, or the fault that it lies outside the range
abbrev pub ranged : ℤ → Result ℤ FaultKind
ranged n = if int_le (neg_ℤ greatest) n && int_le n greatest then Ok n else Err faults.Range

-- a is strictly better than b, in a model that minimizes or maximizes
abbrev pub IsBetter : Bool → ℤ → ℤ → Type 0
IsBetter true a b = a <ℤ b
IsBetter false a b = b <ℤ a

-- the better of two costs
abbrev pub better_of : Bool → ℤ → ℤ → ℤ
better_of true a b = int_min a b
better_of false a b = int_max a b

abbrev pub operation : JoinOp → ℤ → ℤ → ℤ
operation Plus a b = a +ℤ b
operation Most a b = int_max a b
operation Least a b = int_min a b

-- costs so far are joined with weights; `None` is the unit
abbrev pub join : JoinOp → Option ℤ → Option ℤ → Option ℤ
join op None b = b
join op (Some a) None = Some a
join op (Some a) (Some b) = Some (operation op a b)

-- a cost so far, or a weight, joined onto a number
abbrev pub join_onto : JoinOp → Option ℤ → ℤ → ℤ
join_onto op None b = b
join_onto op (Some a) b = operation op a b

-- The order word of a cost so far: the lesser is better. `None` has the word that makes it the unit's.
abbrev pub order_word : Bool → JoinOp → Option ℤ → ℤ
order_word true op (Some c) = pos 9223372036854775808 +ℤ c
order_word false op (Some c) = pos 9223372036854775808 -ℤ c
order_word minimize Plus None = pos 9223372036854775808
order_word true Most None = pos 0
order_word false Least None = pos 0
order_word true Least None = pos 18446744073709551614
order_word false Most None = pos 18446744073709551614
