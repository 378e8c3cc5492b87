-- Dual bounds, and the floors that they give to nodes of a search.
use Rattle.std.specs.Prelude.{◌≡◌, Bool, true, false, not, ◌&&◌, ◌==◌, List, [], ◌∷◌, length, fold, Option, Some, None, Result, Ok, ℤ}
use Rattle.dp_base.specs.Results.{in_turn}
use Rattle.dp_model.specs.Costs.{better_of, join_onto}
use Rattle.dp_model.specs.Evaluation.{num_value}
use Rattle.dp_model.specs.declared.answers.FaultKind.{FaultKind}
use Rattle.dp_model.specs.declared.trees.Num.{Num}
use Rattle.dp_model.specs.declared.parts.PlainState.{PlainState}
use Rattle.dp_model.specs.declared.whole.Model.{Model}

-- the values of dual bounds in a state, in order, or the first fault
abbrev pub values_of : Model → PlainState → List Num → Result (List ℤ) FaultKind
values_of m s bounds = in_turn (λ (e : Num). num_value m s e []) bounds

-- Of several dual bounds the tightest counts: the greatest where the lesser cost is better, and the least where the
-- greater one is.
abbrev pub IsTightest : Model → PlainState → ℤ → Type 0
IsTightest m s bound = (first : ℤ) × (others : List ℤ) × (values_of m s m.bounds ≡ Ok (first ∷ others)) × (bound ≡ fold (better_of (not m.minimize)) first others)

-- floors exist with pruning on, in models with a dual bound
abbrev pub has_floors : Model → (prune : Bool) → Bool
has_floors m prune = prune && not (length m.bounds == 0)

-- a cost so far joined with the tightest bound of a state, without a range test
abbrev pub IsBounded : Model → PlainState → (cost : Option ℤ) → ℤ → Type 0
IsBounded m s cost floor = (bound : ℤ) × IsTightest m s bound × (floor ≡ join_onto m.join cost bound)

-- the floor of a node with this state and this cost so far: there is one exactly where floors exist
abbrev pub IsFloor : Model → (prune : Bool) → PlainState → (cost : Option ℤ) → Option ℤ → Type 0
IsFloor m prune s cost None = has_floors m prune ≡ false
IsFloor m prune s cost (Some floor) = (has_floors m prune ≡ true) × IsBounded m s cost floor
