-- What a visit makes of an inner node: its successors in order of definition, up to the first fault.
use Rattle.std.specs.Prelude.{ℕ, ◌+◌, Bool, false, if◌then◌else◌, List, [], ◌∷◌, ◌++◌, Option, Some, None, Result, Ok, ℤ, pos, int_le, slice_index}
use Rattle.dp_base.specs.Results.{◌>>=◌, each}
use Rattle.dp_model.specs.Costs.{join_onto, order_word, ranged}
use Rattle.dp_model.specs.StepTexts.{ground_of}
use Rattle.dp_model.specs.declared.answers.Spot.TheVariants as spots
use Rattle.dp_model.specs.declared.parts.Transition.{Transition}
use Rattle.dp_model.specs.declared.parts.PlainState.{PlainState}
use Rattle.dp_model.specs.declared.whole.Model.{Model}
use Rattle.state_layout.specs.declared.node.Node.{Node}
use Rattle.spot_eval.specs.Answers.{at_spot}
use Rattle.spot_eval.specs.Looks.{looked_at}
use Rattle.spot_eval.specs.Moves.{cost_at, first_enabled, forced_of, next_at, number_enabled, others_of}
use Rattle.spot_eval.specs.declared.ends.SpotFault.{SpotFault}
use Rattle.spot_eval.specs.declared.looks.Look.{Look}
use Rattle.spot_eval.specs.declared.looks.Look.TheVariants as looks
use Rattle.successors.specs.Answers.{Met, after, here}
use Rattle.successors.specs.Batches.{empty_batch}
use Rattle.successors.specs.Searches.{Visit}
use Rattle.successors.specs.declared.batch.Batch.{Batch}

-- a node with a floor is pruned where the word of its floor is not less than the best
abbrev pub is_pruned : Model → (best : ℕ) → (floor : Option ℤ) → Bool
is_pruned m best None = false
is_pruned m best (Some floor) = int_le (pos best) (order_word m.minimize m.join (Some floor))

-- an inner successor
abbrev pub with_node : Model → Visit → Node → Batch → Batch
with_node m visit node batch =
    if is_pruned m visit.best node.floor
    then record batch { pruned = batch.pruned ++ node ∷ [] }
    else record batch { letters = batch.letters ++ node ∷ [] }

-- a successor that was looked at: a base one is offered with its total, which is tested for its range
abbrev pub with_look : Model → Visit → (g : ℕ) → (cost : Option ℤ) → PlainState → Batch → Look → Result Batch SpotFault
with_look m visit g cost next batch looks.NotAllowed = Ok (record batch { not_allowed = batch.not_allowed + 1 })
with_look m visit g cost next batch (looks.Base base) = at_spot spots.Total (ranged (join_onto m.join cost base)) >>= λ total. Ok (record batch { offers = batch.offers ++ record { cost = total; transition = g } ∷ [] })
with_look m visit g cost next batch (looks.Open floor) = Ok (with_node m visit (record { state = next; cost = cost; floor = floor; parent = Some visit.id; transition = g }) batch)

-- a successor that is looked at, with its cost so far
abbrev pub with_next : Model → Visit → (g : ℕ) → (cost : Option ℤ) → PlainState → Batch → Result Batch SpotFault
with_next m visit g cost next batch = looked_at m visit.prune next cost >>= with_look m visit g cost next batch

-- the same of the state that an enabled transition leads to: what is evaluated in it is told with the transition
abbrev pub with_costed : Model → Visit → Batch → (g : ℕ) → Transition × List ℕ → (cost : Option ℤ) → Result Batch Met
with_costed m visit batch g t cost = here (next_at m visit.state g t) >>= λ next. after g (with_next m visit g cost next batch)

-- the successor that an enabled transition makes: its weight and the joined cost are evaluated before its effects
abbrev pub with_successor : Model → Visit → Batch → (g : ℕ) → Transition × List ℕ → Result Batch Met
with_successor m visit batch g t = here (cost_at m visit.state visit.cost g t) >>= with_costed m visit batch g t

abbrev pub with_named : Model → Visit → Batch → ℕ → Option (Transition × List ℕ) → Result Batch Met
with_named m visit batch g None = Ok batch
with_named m visit batch g (Some t) = with_successor m visit batch g t

abbrev pub with_number : Model → Visit → Batch → ℕ → Result Batch Met
with_number m visit batch g = with_named m visit batch g (ground_of m g)

-- a transition that is not forced: it is tested after the whole treatment of those before it
abbrev pub with_tested : Model → Visit → Batch → ℕ → Result Batch Met
with_tested m visit batch g = here (number_enabled m visit.state g) >>= λ enabled. if enabled then with_number m visit batch g else Ok batch

-- the one at a place among others, if there is a place
abbrev pub with_picked : Model → Visit → Batch → List ℕ → Option ℕ → Result Batch Met
with_picked m visit batch numbers None = Ok batch
with_picked m visit batch numbers (Some k) = with_tested m visit batch (slice_index numbers k)

-- an enabled forced transition is the only one considered
abbrev pub after_forced : Model → Visit → (first : Option ℕ) → Result Batch Met
after_forced m visit (Some g) = with_number m visit empty_batch g
after_forced m visit None = each (with_tested m visit) empty_batch (others_of m)

abbrev pub expansion : Model → Visit → Result Batch Met
expansion m visit = here (first_enabled m visit.state (forced_of m)) >>= after_forced m visit
