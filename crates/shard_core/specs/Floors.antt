-- The best floor of nodes that were dropped in two layers.
use Rattle.std.specs.Prelude.{ℕ, zero, suc, Bool, Option, ℤ}
use Rattle.dp_model.specs.declared.parts.JoinOp.{JoinOp}
use Rattle.dom_store.specs.Order.{better_floor}

-- of so many nodes before and so many more
abbrev pub floor_of : (minimize : Bool) → JoinOp → (before more : ℕ) → Option ℤ → Option ℤ → Option ℤ
floor_of minimize operator zero more a b = b
floor_of minimize operator (suc before) zero a b = a
floor_of minimize operator (suc before) (suc more) a b = better_floor minimize operator a b
