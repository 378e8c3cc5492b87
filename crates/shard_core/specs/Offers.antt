-- The best of what a shard holds and of the solutions that a visit offers.
use Rattle.std.specs.Prelude.{Bool, true, false, if◌then◌else◌, List, [], ◌∷◌, Option, Some, None, ℤ, int_lt}
use Rattle.dp_model.specs.Costs.{order_word}
use Rattle.dp_model.specs.declared.parts.JoinOp.{JoinOp}
use Rattle.path_log.specs.declared.logs.StepId.{StepId}
use Rattle.pass_ledger.specs.declared.records.Held.{Held}
use Rattle.successors.specs.declared.batch.Offer.{Offer}

abbrev pub held_by : StepId → Offer → Held
held_by id offer = record { cost = offer.cost; parent = id; transition = offer.transition }

abbrev pub is_better : (minimize : Bool) → JoinOp → ℤ → ℤ → Bool
is_better minimize operator a b = int_lt (order_word minimize operator (Some a)) (order_word minimize operator (Some b))

-- an offer is held where it is better than what is held
abbrev pub better_held : (minimize : Bool) → JoinOp → StepId → Option Held → Offer → Option Held
better_held minimize operator id None offer = Some (held_by id offer)
better_held minimize operator id (Some held) offer = if is_better minimize operator offer.cost held.cost then Some (held_by id offer) else Some held

-- after all offers, in order
abbrev pub best_held : (minimize : Bool) → JoinOp → StepId → Option Held → List Offer → Option Held
best_held minimize operator id held [] = held
best_held minimize operator id held (offer ∷ offers) = best_held minimize operator id (better_held minimize operator id held offer) offers

-- something is held that was not, or something better
abbrev pub is_news : (minimize : Bool) → JoinOp → (before after : Option Held) → Bool
is_news minimize operator before None = false
is_news minimize operator None (Some held) = true
is_news minimize operator (Some old) (Some held) = is_better minimize operator held.cost old.cost
