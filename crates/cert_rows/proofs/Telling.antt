-- Where a list meets a fault that decides, the check of a certificate tells it.
use Rattle.std.proofs.Common.{◌≡◌, ℕ, ◌+◌, ◌<◌, ◌≤◌, ◌⊎◌, inl, inr, zero, suc, Bool, true, false, List, [], ◌∷◌, ◌++◌, filter, length, slice_get, take, Option, Some, None, Result, Ok, Err, refl, sym, subst, ◌∙◌, arith}
use Rattle.std.specs.Prelude.{ℤ, IfSome}
use Rattle.std.specs.List.{range_with_len}
use Rattle.std.proofs.lemmas.Bool.{cases_lt, cases_order, false≢true}
use Rattle.dp_model.specs.Costs.{InRange, join}
use Rattle.dp_model.specs.declared.answers.FaultKind.{FaultKind}
use Rattle.dp_model.specs.declared.answers.Spot.{Spot}
use Rattle.dp_model.specs.declared.answers.Spot.TheVariants as spots
use Rattle.dp_model.specs.declared.parts.PlainState.{PlainState}
use Rattle.dp_model.specs.declared.parts.Transition.{Transition}
use Rattle.dp_model.specs.declared.whole.Model.{Model}
use Rattle.dp_steps.specs.Faults.{MayStep, MeetsIn}
use Rattle.dp_steps.specs.Lists.{Leads, Path}
use Rattle.dp_steps.specs.States.{Considered, Enabled, Inner, IsForced, Step, weight_of}
use Rattle.spot_eval.specs.Looks.{looked_at}
use Rattle.spot_eval.specs.Moves.{first_enabled, forced_of, goes_before, may_step_at, number_enabled}
use Rattle.spot_eval.specs.declared.ends.SpotFault.{SpotFault}
use Rattle.spot_eval.specs.declared.looks.Look.TheVariants as looks
use Rattle.dom_store.specs.declared.past_node.PastNode.{PastNode}
use Rattle.visit_laws.specs.Fates.{is_on_arrival}
use Rattle.visit_laws.specs.Looks.{is_looked}
use Rattle.visit_laws.proofs.Looks.{bound_met, look_met, looked_base, looked_open}
use Rattle.visit_laws.proofs.Steps.{cost_found, effect_met, joined_met, same_ground, step_made, weight_met}
use Rattle.visit_laws.proofs.Transitions.{before_found, before_none, enabled_found, ground_within, is_found, may_step_found, precondition_found}
use Rattle.cert_types.specs.declared.cert.Cert.{Cert}
use Rattle.cert_types.specs.declared.nodes.CertNode.{CertNode}
use Rattle.cert_laws.specs.Shown.{list_of, IsAt, Stands}
use Rattle.cert_laws.specs.Checks.{covering, cut_fails, entered, first_of, looked_fails, moved, node_fails, step_fails, stepped, steps_fail, walked}
use Rattle.cert_laws.specs.declared.answers.CertReason.{CertReason}
use Rattle.cert_laws.specs.declared.answers.CertReason.TheVariants as reasons
use Rattle.cert_laws.proofs.Fails.{found_accounts}
use Rattle.cert_laws.proofs.Moves.{leads_range}
use Rattle.cert_laws.proofs.Walks.{found_node, inner_entered, reached}
use Rattle.cert_rows.specs.Faults.{Decides, DecidesAt, IsOfStep, IsStopped, NodeMeets, OpenMeets, StepMeets}
use Rattle.cert_rows.proofs.Meeting.{Walk}

abbrev fault_at : Spot → FaultKind → SpotFault
fault_at spot kind = record { spot = spot; kind = kind }

-- ---- in a state

-- an inner state meets no fault when it is looked at
inner_looks : (m : Model) (s : PlainState) (cost : Option ℤ) (spot : Spot) (kind : FaultKind) → Inner m s → is_looked spot ≡ true → MeetsIn m false cost s spot kind → ⊥
inner_looks m s cost spot kind inner is meets = let clash : Err (fault_at spot kind) ≡ Ok (looks.Open None) = sym (look_met m false cost s spot kind is meets) ∙ (looked_open m false s cost None).1 (inner, refl) in cc

-- a forced transition that is tested before another, and meets a fault, is what is found
forced_stops : (m : Model) (s : PlainState) (g h : ℕ) (met : SpotFault) → IsForced m h → (h < g) ⊎ (IsForced m g → ⊥) → Considered m s h → number_enabled m s h ≡ Err met → (other : SpotFault) × (may_step_at m s g ≡ Err other)
forced_stops m s g h met forced order considered e = by (first_enabled m s (filter (goes_before m g) (forced_of m))) refl
  where
    no_false : number_enabled m s h ≡ Ok false → ⊥
    no_false off = let clash : ◌≡◌ {A = Result Bool SpotFault} (Ok false) (Err met) = sym off ∙ e in cc

    no_true : number_enabled m s h ≡ Ok true → ⊥
    no_true on = let clash : ◌≡◌ {A = Result Bool SpotFault} (Ok true) (Err met) = sym on ∙ e in cc

    both : (f : ℕ) → number_enabled m s f ≡ Ok true → number_enabled m s f ≡ Ok false → ⊥
    both f on off = let clash : ◌≡◌ {A = Result Bool SpotFault} (Ok true) (Ok false) = sym on ∙ off in cc

    by : (v : Result (Option ℕ) SpotFault) → first_enabled m s (filter (goes_before m g) (forced_of m)) ≡ v → (other : SpotFault) × (may_step_at m s g ≡ Err other)
    by (Err other) q = (other, rw q refl)
    by (Ok None) q = absurd (no_false (is_found m s h forced.0 false forced.1 ((before_none m s g).0 q h forced.0 forced forced.1 order)))
    by (Ok (Some f)) q =
        let found = before_found m s g f q in
        let on = (enabled_found m s f).1 found.2 in
        elim (cases_order f h) [
          | inl same ↦ absurd (no_true (subst (λ (k : ℕ). number_enabled m s k ≡ Ok true) same on))
          | inr other ↦ elim other [
            | inl less ↦ absurd (both f on (is_found m s f found.0.0 false found.0.1 (considered f found.0.0 found.0 found.0.1 (inl less))))
            | inr more ↦ absurd (no_false (is_found m s h forced.0 false forced.1 (found.1 h forced.0 forced forced.1 (inl more))))
          ]
        ]

-- a transition that may step, of which a fault is found
pub record Breaks (m : Model) (s : PlainState) (cost : Option ℤ) (g : ℕ) : Type 0 where
  pub may : MayStep m s g
  pub met : SpotFault
  pub found : moved m (reached s cost) g may.2.0 ≡ Err met

step_breaks : (m : Model) (prune : Bool) (s : PlainState) (cost : Option ℤ) (g : ℕ) (spot : Spot) (kind : FaultKind) → IfSome cost InRange → IsOfStep g spot → MeetsIn m prune cost s spot kind → Breaks m s cost g
step_breaks m prune s cost g (spots.Constraint i) kind range is meets = absurd is
step_breaks m prune s cost g (spots.BaseCondition i j) kind range is meets = absurd is
step_breaks m prune s cost g (spots.BaseCost i) kind range is meets = absurd is
step_breaks m prune s cost g (spots.Bound i) kind range is meets = absurd is
step_breaks m prune s cost g (spots.Precondition h j) kind range is meets = absurd is
step_breaks m prune s cost g spots.Total kind range is meets = absurd is
step_breaks m prune s cost g (spots.Weight h) kind range is meets =
    let may = meets.0 in
    subst (Breaks m s cost) is (record { may = may; met = fault_at (spots.Weight h) kind; found = rw (weight_met m prune cost s h may.2.0 kind may.2.1 meets) refl })
step_breaks m prune s cost g (spots.Cost h) kind range is meets =
    let may = meets.0.0 in
    subst (Breaks m s cost) is (record { may = may; met = fault_at (spots.Cost h) kind; found = rw (joined_met m prune cost s h may.2.0 kind may.2.1 meets) refl })
step_breaks m prune s cost g (spots.Effect h i) kind range is meets =
    let may = meets.0.0 in
    let changes = meets.0.1 in
    let same = same_ground m h may.2.0 changes.0 may.2.1 changes.2 in
    let weighs : weight_of m s may.2.0 ≡ Ok changes.1 = subst (λ (u : Transition × List ℕ). weight_of m s u ≡ Ok changes.1) same changes.3 in
    let joined = (cost_found m s cost h may.2.0 (join m.join cost changes.1) range).1 (changes.1, weighs, refl, changes.4) in
    subst (Breaks m s cost) is (record { may = may; met = fault_at (spots.Effect h i) kind; found = rw (joined, effect_met m prune cost s h i may.2.0 kind may.2.1 meets) refl })

-- ---- a step

may_stops : (m : Model) (s : PlainState) (cost : Option ℤ) (g : ℕ) (met : SpotFault) → may_step_at m s g ≡ Err met → stepped m (reached s cost) g ≡ Err reasons.Fault
may_stops m s cost g met e = rw e refl

breaks_stops : (m : Model) (s : PlainState) (cost : Option ℤ) (g : ℕ) → Breaks m s cost g → stepped m (reached s cost) g ≡ Err reasons.Fault
breaks_stops m s cost g b = rw ((may_step_found m s g).1 (b.may.1, b.may.2)) (rw b.may.2.1 (rw b.found refl))

-- a fault that decides whether the step is taken stops it
stepped_stops : (m : Model) (s : PlainState) (cost : Option ℤ) (g : ℕ) (spot : Spot) (kind : FaultKind) → IfSome cost InRange → Inner m s → Decides m g spot → MeetsIn m false cost s spot kind → stepped m (reached s cost) g ≡ Err reasons.Fault
stepped_stops m s cost g (spots.Constraint i) kind range inner is meets = absurd (inner_looks m s cost (spots.Constraint i) kind inner refl meets)
stepped_stops m s cost g (spots.BaseCondition i j) kind range inner is meets = absurd (inner_looks m s cost (spots.BaseCondition i j) kind inner refl meets)
stepped_stops m s cost g (spots.BaseCost i) kind range inner is meets = absurd (inner_looks m s cost (spots.BaseCost i) kind inner refl meets)
stepped_stops m s cost g (spots.Bound i) kind range inner is meets = absurd (inner_looks m s cost (spots.Bound i) kind inner refl meets)
stepped_stops m s cost g spots.Total kind range inner is meets = absurd (false≢true is)
stepped_stops m s cost g (spots.Weight h) kind range inner is meets = breaks_stops m s cost g (step_breaks m false s cost g (spots.Weight h) kind range is meets)
stepped_stops m s cost g (spots.Cost h) kind range inner is meets = breaks_stops m s cost g (step_breaks m false s cost g (spots.Cost h) kind range is meets)
stepped_stops m s cost g (spots.Effect h i) kind range inner is meets = breaks_stops m s cost g (step_breaks m false s cost g (spots.Effect h i) kind range is meets)
stepped_stops m s cost g (spots.Precondition h j) kind range inner (inl same) meets =
    subst (λ (k : ℕ). stepped m (reached s cost) k ≡ Err reasons.Fault) same (may_stops m s cost h (fault_at (spots.Precondition h j) kind) (precondition_found m false cost s h j kind meets).1)
stepped_stops m s cost g (spots.Precondition h j) kind range inner (inr before) meets =
    let stops = forced_stops m s g h (fault_at (spots.Precondition h j) kind) before.0 before.1 meets.0.1 (precondition_found m false cost s h j kind meets).0 in
    may_stops m s cost g stops.0 stops.1

-- a step enters the state that it leads to
step_enters : (m : Model) (s : PlainState) (cost : Option ℤ) (g : ℕ) (weight : Option ℤ) (next : PlainState) → IfSome cost InRange → Step m s g weight next → IfSome (join m.join cost weight) InRange → stepped m (reached s cost) g ≡ entered m next (join m.join cost weight)
step_enters m s cost g weight next range step fits =
    let may = (may_step_found m s g).1 (step.considered, (step.move.0, step.move.1, step.move.2)) in
    let made = step_made m s cost g step.move.0 weight next range step step.move.1 fits in
    rw may (rw step.move.1 (rw made.0 (rw made.1 refl)))

-- ---- a list

no_total : (m : Model) (next : Option ℕ) → DecidesAt m next spots.Total → ⊥
no_total m None is = false≢true is
no_total m (Some g) is = false≢true is

-- a state in which a fault decides meets it when it is looked at, or is inner
looked_or_inner : (m : Model) (next : Option ℕ) (s : PlainState) (cost : Option ℤ) (spot : Spot) (kind : FaultKind) → DecidesAt m next spot → MeetsIn m false cost s spot kind → (looked_at m false s cost ≡ Err (fault_at spot kind)) ⊎ Inner m s
looked_or_inner m next s cost (spots.Constraint i) kind is meets = inl (look_met m false cost s (spots.Constraint i) kind refl meets)
looked_or_inner m next s cost (spots.BaseCondition i j) kind is meets = inl (look_met m false cost s (spots.BaseCondition i j) kind refl meets)
looked_or_inner m next s cost (spots.BaseCost i) kind is meets = inl (look_met m false cost s (spots.BaseCost i) kind refl meets)
looked_or_inner m next s cost (spots.Bound i) kind is meets = inl (look_met m false cost s (spots.Bound i) kind refl meets)
looked_or_inner m next s cost spots.Total kind is meets = absurd (no_total m next is)
looked_or_inner m next s cost (spots.Precondition g j) kind is meets = inr meets.0.0
looked_or_inner m next s cost (spots.Weight g) kind is meets = inr meets.0.0
looked_or_inner m next s cost (spots.Cost g) kind is meets = inr meets.0.0.0
looked_or_inner m next s cost (spots.Effect g i) kind is meets = inr meets.0.0.0

-- where the fault is met before the first step
stops_here : (m : Model) (s : PlainState) (cost : Option ℤ) (gs : List ℕ) (spot : Spot) (kind : FaultKind) → IfSome cost InRange → Inner m s → DecidesAt m (slice_get gs 0) spot → MeetsIn m false cost s spot kind → walked m (reached s cost) gs ≡ Err reasons.Fault
stops_here m s cost [] spot kind range inner is meets = absurd (inner_looks m s cost spot kind inner is meets)
stops_here m s cost (g ∷ gs) spot kind range inner is meets = rw (stepped_stops m s cost g spot kind range inner is meets) refl

stops_at_once : (m : Model) (s to : PlainState) (cost total : Option ℤ) (gs : List ℕ) (spot : Spot) (kind : FaultKind) → IfSome cost InRange → Leads m s cost [] to total → DecidesAt m (slice_get gs 0) spot → MeetsIn m false total to spot kind → Walk m s cost gs ≡ Err reasons.Fault
stops_at_once m s to cost total gs spot kind range leads is meets =
    let here : MeetsIn m false cost s spot kind = subst (λ (x : PlainState). MeetsIn m false cost x spot kind) (sym leads.0) (subst (λ (c : Option ℤ). MeetsIn m false c to spot kind) (sym leads.1) meets) in
    elim (looked_or_inner m (slice_get gs 0) s cost spot kind is here) [
      | inl e ↦ rw e refl
      | inr inner ↦ rw (inner_entered m s cost inner) (stops_here m s cost gs spot kind range inner is here)
    ]

walk_stops : (m : Model) (s to : PlainState) (cost total : Option ℤ) (gs : List ℕ) (done : ℕ) (spot : Spot) (kind : FaultKind) → IfSome cost InRange → Leads m s cost (take done gs) to total → DecidesAt m (slice_get gs done) spot → MeetsIn m false total to spot kind → Walk m s cost gs ≡ Err reasons.Fault
walk_stops m s to cost total gs zero spot kind range leads is meets = stops_at_once m s to cost total gs spot kind range leads is meets
walk_stops m s to cost total [] (suc done) spot kind range leads is meets = stops_at_once m s to cost total [] spot kind range leads is meets
walk_stops m s to cost total (g ∷ gs) (suc done) spot kind range leads is meets =
    let rest = walk_stops m leads.0 to (join m.join cost leads.1) total gs done spot kind leads.3 leads.4 is meets in
    rw (inner_entered m s cost leads.2.inner) (rw (step_enters m s cost g leads.1 leads.0 range leads.2 leads.3) rest)

-- a fault that stops a list is found of it
pub stopped_list : (m : Model) (steps : List ℕ) → IsStopped m steps → Walk m m.target None steps ≡ Err reasons.Fault
stopped_list m steps stopped =
    let met = stopped.meets in
    walk_stops m m.target met.3.0 None met.3.1 steps stopped.done met.0 met.1 tt met.3.2 met.2 met.3.3

-- ---- a node that stands

pub cut_stops : (m : Model) (cert : Cert) (s : PlainState) (cost : Option ℤ) (i : ℕ) (kind : FaultKind) → MeetsIn m cert.prune cost s (spots.Bound i) kind → cut_fails m cert (reached s cost) ≡ Some reasons.Fault
cut_stops m cert s cost i kind meets = rw (bound_met m cert.prune cost s i kind meets) refl

-- a successor that meets a fault on arrival
arrival_stops : (m : Model) (cert : Cert) (past : List PastNode) (s : PlainState) (cost : Option ℤ) (spot : Spot) (kind : FaultKind) → is_on_arrival spot ≡ true → MeetsIn m cert.prune cost s spot kind → looked_fails m cert past (reached s cost) ≡ Some reasons.Fault
arrival_stops m cert past s cost (spots.Constraint i) kind is meets = rw (look_met m cert.prune cost s (spots.Constraint i) kind refl meets) refl
arrival_stops m cert past s cost (spots.BaseCondition i j) kind is meets = rw (look_met m cert.prune cost s (spots.BaseCondition i j) kind refl meets) refl
arrival_stops m cert past s cost (spots.BaseCost i) kind is meets = rw (look_met m cert.prune cost s (spots.BaseCost i) kind refl meets) refl
arrival_stops m cert past s cost (spots.Bound i) kind is meets = rw (look_met m cert.prune cost s (spots.Bound i) kind refl meets) refl
arrival_stops m cert past s cost spots.Total kind is meets = rw ((looked_base m cert.prune s cost meets.1.0).1 meets.1.1) (rw meets.1.2 refl)
arrival_stops m cert past s cost (spots.Precondition g j) kind is meets = absurd (false≢true is)
arrival_stops m cert past s cost (spots.Weight g) kind is meets = absurd (false≢true is)
arrival_stops m cert past s cost (spots.Cost g) kind is meets = absurd (false≢true is)
arrival_stops m cert past s cost (spots.Effect g i) kind is meets = absurd (false≢true is)

-- the list leads to a state, and the last step from there
pub record LastStep (m : Model) (from : PlainState) (cost : Option ℤ) (steps : List ℕ) (g : ℕ) (to : PlainState) (total : Option ℤ) : Type 0 where
  pub state : PlainState
  pub so_far : Option ℤ
  pub weight : Option ℤ
  pub leads : Leads m from cost steps state so_far
  pub step : Step m state g weight to
  pub in_range : IfSome (join m.join so_far weight) InRange
  pub total_is : join m.join so_far weight ≡ total

last_step : (m : Model) (from to : PlainState) (cost total : Option ℤ) (steps : List ℕ) (g : ℕ) → Leads m from cost (steps ++ g ∷ []) to total → LastStep m from cost steps g to total
last_step m from to cost total [] g h =
    record {
      state = from;
      so_far = cost;
      weight = h.1;
      leads = (refl, refl);
      step = subst (λ (x : PlainState). Step m from g h.1 x) h.4.0 h.2;
      in_range = h.3;
      total_is = h.4.1;
    }
last_step m from to cost total (x ∷ steps) g h =
    let r = last_step m h.0 to (join m.join cost h.1) total steps g h.4 in
    record { state = r.state; so_far = r.so_far; weight = r.weight; leads = (h.0, h.1, h.2, h.3, r.leads); step = r.step; in_range = r.in_range; total_is = r.total_is }

-- a step from a node that stands meets a fault, and is rejected by it
pub record Rejected (m : Model) (cert : Cert) (l place g : ℕ) : Type 0 where
  pub state : PlainState
  pub cost : Option ℤ
  pub path : Path m (list_of cert.layers l place) state cost
  pub inner : Inner m state
  pub enabled : Enabled m state g
  pub fails : step_fails m cert (covering m cert cert.keep (l + 1)) (reached state cost) g ≡ Some reasons.Fault

step_rejected : (m : Model) (cert : Cert) (l place g : ℕ) → StepMeets m cert.prune (list_of cert.layers l place) g → Rejected m cert l place g
step_rejected m cert l place g (inl met) =
    let s = met.3.0 in
    let cost = met.3.1 in
    let path = met.3.2 in
    let b = step_breaks m cert.prune s cost g met.0 met.1 (leads_range m m.target None (list_of cert.layers l place) s cost tt path) met.2 met.3.3 in
    record {
      state = s;
      cost = cost;
      path = path;
      inner = b.may.0;
      enabled = b.may.2;
      fails = rw ((may_step_found m s g).1 (b.may.1, b.may.2)) (rw b.may.2.1 (rw b.found refl));
    }
step_rejected m cert l place g (inr met) =
    let r = last_step m m.target met.3.0 None met.3.1 (list_of cert.layers l place) g met.3.2 in
    let range = leads_range m m.target None (list_of cert.layers l place) r.state r.so_far tt r.leads in
    let may = (may_step_found m r.state g).1 (r.step.considered, (r.step.move.0, r.step.move.1, r.step.move.2)) in
    let made = step_made m r.state r.so_far g r.step.move.0 r.weight met.3.0 range r.step r.step.move.1 r.in_range in
    let here : MeetsIn m cert.prune (join m.join r.so_far r.weight) met.3.0 met.0 met.1 = subst (λ (c : Option ℤ). MeetsIn m cert.prune c met.3.0 met.0 met.1) (sym r.total_is) met.3.3 in
    record {
      state = r.state;
      cost = r.so_far;
      path = r.leads;
      inner = r.step.inner;
      enabled = (r.step.move.0, r.step.move.1, r.step.move.2);
      fails = rw may (rw r.step.move.1 (rw made.0 (rw made.1 (arrival_stops m cert (covering m cert cert.keep (l + 1)) met.3.0 (join m.join r.so_far r.weight) met.0 met.1 met.2 here))));
    }

-- the first of some numbers in a row, before which none is there
first_is : (fails : ℕ → Option CertReason) (from n g : ℕ) (reason : CertReason) → from ≤ g → g < from + n → ((h : ℕ) → from ≤ h → h < g → fails h ≡ None) → fails g ≡ Some reason → first_of fails (range_with_len from n) ≡ Some reason
first_is fails from zero g reason low high before is = absurd (omega arith)
first_is fails from (suc n) g reason low high before is =
    elim (cases_lt from g) [
      | inl less ↦ rw (before from (self from) less) (first_is fails (from + 1) n g reason (next from g less) (inside from n g high) (λ h low' less'. before h (below from h low') less') is)
      | inr more ↦ (let same : g ≡ from = omega (arith, low, more) in rw (subst (λ (k : ℕ). fails k ≡ Some reason) same is) refl)
    ]
  where
    self : (a : ℕ) → a ≤ a
    self a = omega arith

    next : (a b : ℕ) → a < b → a + 1 ≤ b
    next a b h = omega arith

    inside : (a n b : ℕ) → b < a + suc n → b < a + 1 + n
    inside a n b h = omega arith

    below : (a b : ℕ) → a + 1 ≤ b → a ≤ b
    below a b h = omega arith

pub open_stops : (m : Model) (cert : Cert) (l place : ℕ) (n : CertNode) → IsAt cert l place n → (meets : OpenMeets m cert l place) (r : Rejected m cert l place meets.g) → steps_fail m cert (covering m cert cert.keep (l + 1)) (reached r.state r.cost) ≡ Some reasons.Fault
open_stops m cert l place n at meets r =
    let range = leads_range m m.target None (list_of cert.layers l place) r.state r.cost tt r.path in
    let stands : Stands m cert l place r.state r.cost = record { node = n; at = at; path = r.path; inner = r.inner } in
    first_is (step_fails m cert (covering m cert cert.keep (l + 1)) (reached r.state r.cost)) 0 (length m.dp_ground) meets.g reasons.Fault (omega arith)
    (to_zero meets.g (length m.dp_ground) (ground_within m meets.g r.enabled.0 r.enabled.1))
    (λ h low less. found_accounts m cert l r.state r.cost range r.inner h (meets.before r.state r.cost stands h less)) r.fails
  where
    to_zero : (a b : ℕ) → a < b → a < 0 + b
    to_zero a b h = omega arith

-- ---- the line of a node

pub line_stops : (m : Model) (cert : Cert) (l place : ℕ) (n : CertNode) (cut : Bool) → IsAt cert l place n → n.cut ≡ cut → NodeMeets m cert l place cut → node_fails m cert l place n ≡ Some reasons.Fault
line_stops m cert l place n true at is (inl stopped) = rw (stopped_list m (list_of cert.layers l place) stopped) refl
line_stops m cert l place n false at is (inl stopped) = rw (stopped_list m (list_of cert.layers l place) stopped) refl
line_stops m cert l place n true at is (inr met) =
    let found = found_node m cert l place met.2.0 met.2.1 met.2.2 met.2.3.0.0 in
    rw found (rw is (cut_stops m cert met.2.0 met.2.1 met.0 met.1 met.2.3))
line_stops m cert l place n false at is (inr meets) =
    let r = step_rejected m cert l place meets.g meets.meets in
    rw (found_node m cert l place r.state r.cost r.path r.inner) (rw is (open_stops m cert l place n at meets r))
