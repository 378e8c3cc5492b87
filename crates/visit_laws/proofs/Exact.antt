-- Each fault of a transition that is met is the one that its whole treatment finds.
use Rattle.std.proofs.Common.{◌≡◌, ℕ, true, List, Option, Some, None, Ok, Err, IfSome, ℤ, refl, sym, subst, ◌∙◌}
use Rattle.std.proofs.lemmas.Bool.{false≢true}
use Rattle.dp_model.specs.Costs.{InRange, join}
use Rattle.dp_model.specs.declared.answers.FaultKind.{FaultKind}
use Rattle.dp_model.specs.declared.answers.Spot.{Spot}
use Rattle.dp_model.specs.declared.answers.Spot.TheVariants as spots
use Rattle.dp_model.specs.declared.parts.Transition.{Transition}
use Rattle.dp_model.specs.declared.parts.PlainState.{PlainState}
use Rattle.dp_model.specs.declared.whole.Model.{Model}
use Rattle.dp_steps.specs.States.{Considered, Enabled, Step, weight_of}
use Rattle.dp_steps.specs.Faults.{MeetsIn}
use Rattle.successors.specs.Answers.{Met}
use Rattle.successors.specs.Batches.{empty_batch}
use Rattle.successors.specs.Searches.{Visit}
use Rattle.successors.specs.Visits.{with_tested}
use Rattle.successors.specs.declared.batch.Batch.{Batch}
use Rattle.visit_laws.specs.Fates.{Arrives, IsFaultOf, IsOf, MeetsAfter, is_on_arrival}
use Rattle.visit_laws.specs.Looks.{is_looked}
use Rattle.visit_laws.specs.Visits.{OneFault}
use Rattle.visit_laws.proofs.Looks.{look_met, looked_base}
use Rattle.visit_laws.proofs.Transitions.{enabled_found, precondition_found}
use Rattle.visit_laws.proofs.Steps.{cost_found, effect_met, joined_met, same_ground, step_made, weight_met}
use Rattle.visit_laws.proofs.InTurn.{Settled}

-- what a fault is told as
abbrev pub met_at : Spot → FaultKind → Option ℕ → Met
met_at spot kind last = record { spot = spot; kind = kind; last = last }

-- ---- faults in the visited state

weight_tested : (m : Model) (v : Visit) (batch : Batch) (g : ℕ) (kind : FaultKind) → MeetsIn m v.prune v.cost v.state (spots.Weight g) kind → with_tested m v batch g ≡ Err (met_at (spots.Weight g) kind None)
weight_tested m v batch g kind meets =
    let enabled = meets.0.2 in
    rw ((enabled_found m v.state g).1 enabled, enabled.1, weight_met m v.prune v.cost v.state g enabled.0 kind enabled.1 meets) refl

cost_tested : (m : Model) (v : Visit) (batch : Batch) (g : ℕ) (kind : FaultKind) → MeetsIn m v.prune v.cost v.state (spots.Cost g) kind → with_tested m v batch g ≡ Err (met_at (spots.Cost g) kind None)
cost_tested m v batch g kind meets =
    let enabled = meets.0.0.2 in
    rw ((enabled_found m v.state g).1 enabled, enabled.1, joined_met m v.prune v.cost v.state g enabled.0 kind enabled.1 meets) refl

effect_tested : (m : Model) (v : Visit) (batch : Batch) (g i : ℕ) (kind : FaultKind) → IfSome v.cost InRange → MeetsIn m v.prune v.cost v.state (spots.Effect g i) kind → with_tested m v batch g ≡ Err (met_at (spots.Effect g i) kind None)
effect_tested m v batch g i kind range meets =
    let enabled = meets.0.0.2 in
    let changes = meets.0.1 in
    let same = same_ground m g enabled.0 changes.0 enabled.1 changes.2 in
    let weighs : weight_of m v.state enabled.0 ≡ Ok changes.1 = subst (λ (u : Transition × List ℕ). weight_of m v.state u ≡ Ok changes.1) same changes.3 in
    let cost = (cost_found m v.state v.cost g enabled.0 (join m.join v.cost changes.1) range).1 (changes.1, weighs, refl, changes.4) in
    rw ((enabled_found m v.state g).1 enabled, enabled.1, cost, effect_met m v.prune v.cost v.state g i enabled.0 kind enabled.1 meets) refl

here_tested : (m : Model) (v : Visit) (batch : Batch) (g : ℕ) (spot : Spot) (kind : FaultKind) → IfSome v.cost InRange → IsOf g None spot → MeetsIn m v.prune v.cost v.state spot kind → with_tested m v batch g ≡ Err (met_at spot kind None)
here_tested m v batch g (spots.Precondition h j) kind range is meets =
    let at : with_tested m v batch h ≡ Err (met_at (spots.Precondition h j) kind None) = rw (precondition_found m v.prune v.cost v.state h j kind meets).0 refl in
    subst (λ (k : ℕ). with_tested m v batch k ≡ Err (met_at (spots.Precondition h j) kind None)) is at
here_tested m v batch g (spots.Weight h) kind range is meets = subst (λ (k : ℕ). with_tested m v batch k ≡ Err (met_at (spots.Weight h) kind None)) is (weight_tested m v batch h kind meets)
here_tested m v batch g (spots.Cost h) kind range is meets = subst (λ (k : ℕ). with_tested m v batch k ≡ Err (met_at (spots.Cost h) kind None)) is (cost_tested m v batch h kind meets)
here_tested m v batch g (spots.Effect h i) kind range is meets = subst (λ (k : ℕ). with_tested m v batch k ≡ Err (met_at (spots.Effect h i) kind None)) is (effect_tested m v batch h i kind range meets)
here_tested m v batch g (spots.Constraint i) kind range is meets = absurd is
here_tested m v batch g (spots.BaseCondition i j) kind range is meets = absurd is
here_tested m v batch g (spots.BaseCost i) kind range is meets = absurd is
here_tested m v batch g (spots.Bound i) kind range is meets = absurd is
here_tested m v batch g spots.Total kind range is meets = absurd is

-- ---- faults in the state that the transition leads to

looked_tested : (m : Model) (v : Visit) (batch : Batch) (g : ℕ) (weight : Option ℤ) (next : PlainState) (spot : Spot) (kind : FaultKind) → IfSome v.cost InRange → Step m v.state g weight next → IfSome (join m.join v.cost weight) InRange → is_looked spot ≡ true → MeetsIn m v.prune (join m.join v.cost weight) next spot kind → with_tested m v batch g ≡ Err (met_at spot kind (Some g))
looked_tested m v batch g weight next spot kind range step in_range is meets =
    let t = step.move.0 in
    let there = step.move.1 in
    let enabled : Enabled m v.state g = (t, there, step.move.2) in
    let found = step_made m v.state v.cost g t weight next range step there in_range in
    rw ((enabled_found m v.state g).1 enabled, there, found.0, found.1, look_met m v.prune (join m.join v.cost weight) next spot kind is meets) refl

total_tested : (m : Model) (v : Visit) (batch : Batch) (g : ℕ) (weight : Option ℤ) (next : PlainState) (kind : FaultKind) → IfSome v.cost InRange → Step m v.state g weight next → IfSome (join m.join v.cost weight) InRange → MeetsIn m v.prune (join m.join v.cost weight) next spots.Total kind → with_tested m v batch g ≡ Err (met_at spots.Total kind (Some g))
total_tested m v batch g weight next kind range step in_range meets =
    let t = step.move.0 in
    let there = step.move.1 in
    let enabled : Enabled m v.state g = (t, there, step.move.2) in
    let found = step_made m v.state v.cost g t weight next range step there in_range in
    let base = meets.1.0 in
    rw ((enabled_found m v.state g).1 enabled, there, found.0, found.1, (looked_base m v.prune next (join m.join v.cost weight) base).1 meets.1.1, meets.1.2) refl

after_tested : (m : Model) (v : Visit) (batch : Batch) (g : ℕ) (weight : Option ℤ) (next : PlainState) (spot : Spot) (kind : FaultKind) → IfSome v.cost InRange → Step m v.state g weight next → IfSome (join m.join v.cost weight) InRange → is_on_arrival spot ≡ true → MeetsIn m v.prune (join m.join v.cost weight) next spot kind → with_tested m v batch g ≡ Err (met_at spot kind (Some g))
after_tested m v batch g weight next spots.Total kind range step in_range is meets = total_tested m v batch g weight next kind range step in_range meets
after_tested m v batch g weight next (spots.Constraint i) kind range step in_range is meets = looked_tested m v batch g weight next (spots.Constraint i) kind range step in_range refl meets
after_tested m v batch g weight next (spots.BaseCondition i j) kind range step in_range is meets = looked_tested m v batch g weight next (spots.BaseCondition i j) kind range step in_range refl meets
after_tested m v batch g weight next (spots.BaseCost i) kind range step in_range is meets = looked_tested m v batch g weight next (spots.BaseCost i) kind range step in_range refl meets
after_tested m v batch g weight next (spots.Bound i) kind range step in_range is meets = looked_tested m v batch g weight next (spots.Bound i) kind range step in_range refl meets
after_tested m v batch g weight next (spots.Precondition h j) kind range step in_range is meets = absurd (false≢true is)
after_tested m v batch g weight next (spots.Weight h) kind range step in_range is meets = absurd (false≢true is)
after_tested m v batch g weight next (spots.Cost h) kind range step in_range is meets = absurd (false≢true is)
after_tested m v batch g weight next (spots.Effect h i) kind range step in_range is meets = absurd (false≢true is)

-- ---- both

tested_at : (m : Model) (v : Visit) (batch : Batch) (g : ℕ) (met : Met) (last : Option ℕ) → IfSome v.cost InRange → IsOf g last met.spot → MeetsAfter m v last met → Arrives last met.spot → with_tested m v batch g ≡ Err (met_at met.spot met.kind last)
tested_at m v batch g met None range is meets arrives = here_tested m v batch g met.spot met.kind range is meets
tested_at m v batch g met (Some h) range is meets arrives =
    subst (λ (k : ℕ). with_tested m v batch k ≡ Err (met_at met.spot met.kind (Some h))) is (after_tested m v batch h meets.0 meets.1 met.spot met.kind range meets.2 meets.3 arrives meets.4)

-- a fault of a transition is the one that is found, whatever the batch before
pub fault_tested : (m : Model) (v : Visit) (batch : Batch) (g : ℕ) (met : Met) → IfSome v.cost InRange → IsFaultOf m v g met → with_tested m v batch g ≡ Err met
fault_tested m v batch g met range is = tested_at m v batch g met met.last range is.is_of is.meets is.arrives

pub settled_no_fault : (m : Model) (v : Visit) (g : ℕ) (met : Met) → IfSome v.cost InRange → IsFaultOf m v g met → Settled m v g → ⊥
settled_no_fault m v g met range is settled =
    let fault = fault_tested m v settled.0 g met range is in
    let clash : Ok settled.1 ≡ Err met = sym settled.2 ∙ fault in
    cc

pub one_fault : OneFault
one_fault m v g a b range is is' =
    let same : Err a ≡ Err b = sym (fault_tested m v empty_batch g a range is) ∙ fault_tested m v empty_batch g b range is' in
    cc

-- ---- the transition of a fault is considered

here_considered : (m : Model) (v : Visit) (g : ℕ) (spot : Spot) (kind : FaultKind) → IsOf g None spot → MeetsIn m v.prune v.cost v.state spot kind → Considered m v.state g
here_considered m v g (spots.Precondition h j) kind is meets = subst (λ (k : ℕ). Considered m v.state k) is meets.0.1
here_considered m v g (spots.Weight h) kind is meets = subst (λ (k : ℕ). Considered m v.state k) is meets.0.1
here_considered m v g (spots.Cost h) kind is meets = subst (λ (k : ℕ). Considered m v.state k) is meets.0.0.1
here_considered m v g (spots.Effect h i) kind is meets = subst (λ (k : ℕ). Considered m v.state k) is meets.0.0.1
here_considered m v g (spots.Constraint i) kind is meets = absurd is
here_considered m v g (spots.BaseCondition i j) kind is meets = absurd is
here_considered m v g (spots.BaseCost i) kind is meets = absurd is
here_considered m v g (spots.Bound i) kind is meets = absurd is
here_considered m v g spots.Total kind is meets = absurd is

considered_at : (m : Model) (v : Visit) (g : ℕ) (met : Met) (last : Option ℕ) → IsOf g last met.spot → MeetsAfter m v last met → Considered m v.state g
considered_at m v g met None is meets = here_considered m v g met.spot met.kind is meets
considered_at m v g met (Some h) is meets = subst (λ (k : ℕ). Considered m v.state k) is meets.2.considered

pub fault_considered : (m : Model) (v : Visit) (g : ℕ) (met : Met) → IsFaultOf m v g met → Considered m v.state g
fault_considered m v g met is = considered_at m v g met met.last is.is_of is.meets
