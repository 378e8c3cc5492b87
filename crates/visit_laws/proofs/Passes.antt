-- Where a visit finds a batch, no fault is passed over.
use Rattle.std.proofs.Common.{◌≡◌, ℕ, ◌<◌, Bool, true, ◌⊎◌, inl, inr, length, Option, Some, None, IfSome, ℤ, refl, subst}
use Rattle.dp_model.specs.Costs.{InRange, join}
use Rattle.dp_model.specs.declared.answers.FaultKind.{FaultKind}
use Rattle.dp_model.specs.declared.answers.Spot.{Spot}
use Rattle.dp_model.specs.declared.answers.Spot.TheVariants as spots
use Rattle.dp_model.specs.declared.parts.PlainState.{PlainState}
use Rattle.dp_model.specs.declared.whole.Model.{Model}
use Rattle.dp_steps.specs.States.{Considered, Enabled, Inner, Step}
use Rattle.dp_steps.specs.Bounds.{IsFloor}
use Rattle.dp_steps.specs.Faults.{MeetsIn}
use Rattle.successors.specs.Searches.{Visit}
use Rattle.successors.specs.declared.batch.Batch.{Batch}
use Rattle.visit_laws.specs.Fates.{IsOf, IsFaultOf, LeadsOut, is_on_arrival}
use Rattle.visit_laws.specs.Looks.{is_looked}
use Rattle.visit_laws.specs.Visits.{Accounted, IsKept, IsOffered, NoFaultPassed}
use Rattle.visit_laws.proofs.Looks.{look_met, looked_open}
use Rattle.visit_laws.proofs.BaseCases.{not_inner}
use Rattle.visit_laws.proofs.Transitions.{ground_within}
use Rattle.visit_laws.proofs.Exact.{met_at, settled_no_fault}
use Rattle.visit_laws.proofs.Visits.{AllSettled, all_settled}
use Rattle.visit_laws.proofs.Batches.{batch_found, same_next}

-- an inner state with a floor meets no fault when it is looked at
none_looked : (m : Model) (prune : Bool) (cost floor : Option ℤ) (s : PlainState) (spot : Spot) (kind : FaultKind) → Inner m s → IsFloor m prune s cost floor → is_looked spot ≡ true → MeetsIn m prune cost s spot kind → ⊥
none_looked m prune cost floor s spot kind inner is looked meets =
    let fault = look_met m prune cost s spot kind looked meets in
    let found = (looked_open m prune s cost floor).1 (inner, is) in
    absurd (cc)

-- the joined cost of a step is in range where its transition has a fate
in_range_as : (m : Model) (v : Visit) (batch : Batch) (g : ℕ) (weight : Option ℤ) (next : PlainState) → Step m v.state g weight next → LeadsOut m v g ⊎ (IsOffered m v batch g ⊎ IsKept m v batch g) → IfSome (join m.join v.cost weight) InRange
in_range_as m v batch g weight next step (inl out) =
    let same = same_next m v.state g out.0 weight out.1 next out.2 step in
    subst (λ (w : Option ℤ). IfSome (join m.join v.cost w) InRange) same.0 out.3
in_range_as m v batch g weight next step (inr (inl offered)) =
    let same = same_next m v.state g offered.1.weight weight offered.1.next next offered.1.step step in
    subst (λ (w : Option ℤ). IfSome (join m.join v.cost w) InRange) same.0 offered.1.cost_in_range
in_range_as m v batch g weight next step (inr (inr kept)) =
    let same = same_next m v.state g kept.1.weight weight kept.0.state next kept.1.step step in
    let joined : IfSome (join m.join v.cost kept.1.weight) InRange = subst (λ (c : Option ℤ). IfSome c InRange) kept.1.cost kept.1.in_range in
    subst (λ (w : Option ℤ). IfSome (join m.join v.cost w) InRange) same.0 joined

module _ (m : Model) (v : Visit) (batch : Batch) (range : IfSome v.cost InRange) (accounted : Accounted m v batch) (settled : AllSettled m v (length m.dp_ground)) where
  none_of : (g : ℕ) (spot : Spot) (kind : FaultKind) → IsOf g None spot → g < length m.dp_ground → Considered m v.state g → MeetsIn m v.prune v.cost v.state spot kind → ⊥
  none_of g spot kind is within considered meets =
      settled_no_fault m v g (met_at spot kind None) range (record { is_of = is; meets = meets; arrives = tt }) (settled g within considered)

  none_here : (floor : Option ℤ) → Inner m v.state → IsFloor m v.prune v.state v.cost floor → (spot : Spot) (kind : FaultKind) → MeetsIn m v.prune v.cost v.state spot kind → ⊥
  none_here floor inner is (spots.Constraint i) kind meets = none_looked m v.prune v.cost floor v.state (spots.Constraint i) kind inner is refl meets
  none_here floor inner is (spots.BaseCondition i j) kind meets = none_looked m v.prune v.cost floor v.state (spots.BaseCondition i j) kind inner is refl meets
  none_here floor inner is (spots.BaseCost i) kind meets = none_looked m v.prune v.cost floor v.state (spots.BaseCost i) kind inner is refl meets
  none_here floor inner is (spots.Bound i) kind meets = none_looked m v.prune v.cost floor v.state (spots.Bound i) kind inner is refl meets
  none_here floor inner is spots.Total kind meets = not_inner m v.state v.state meets.0.0 refl meets.0.1 inner
  none_here floor inner is (spots.Precondition g j) kind meets = none_of g (spots.Precondition g j) kind refl (ground_within m g meets.1.0 meets.1.2) meets.0.1 meets
  none_here floor inner is (spots.Weight g) kind meets = none_of g (spots.Weight g) kind refl (ground_within m g meets.1.0 meets.1.1) meets.0.1 meets
  none_here floor inner is (spots.Cost g) kind meets = none_of g (spots.Cost g) kind refl (ground_within m g meets.1.0 meets.1.2) meets.0.0.1 meets
  none_here floor inner is (spots.Effect g i) kind meets = none_of g (spots.Effect g i) kind refl (ground_within m g meets.1.0 meets.1.2) meets.0.0.1 meets

  none_after : (g : ℕ) (weight : Option ℤ) (next : PlainState) → Step m v.state g weight next → (spot : Spot) (kind : FaultKind) → is_on_arrival spot ≡ true → MeetsIn m v.prune (join m.join v.cost weight) next spot kind → ⊥
  none_after g weight next step spot kind arrives meets =
      let enabled : Enabled m v.state g = (step.move.0, step.move.1, step.move.2) in
      let in_range = in_range_as m v batch g weight next step (accounted g step.considered enabled) in
      let is : IsFaultOf m v g (met_at spot kind (Some g)) = record { is_of = refl; meets = (weight, next, step, in_range, meets); arrives = arrives } in
      settled_no_fault m v g (met_at spot kind (Some g)) range is (settled g (ground_within m g step.move.0 step.move.1) step.considered)

pub no_fault_passed : NoFaultPassed
no_fault_passed m v batch floor inner range is e =
    let accounted = (batch_found m v batch inner range e).accounted in
    let settled = all_settled m v batch inner range e in
    record {
      here = λ spot kind meets. none_here m v batch range accounted settled floor inner is spot kind meets;
      after = λ g weight next step spot kind arrives meets. none_after m v batch range accounted settled g weight next step spot kind arrives meets;
    }
