-- Where the check of a certificate finds a fault on the way of a list, or behind it, a list of the model meets it.
use Rattle.std.proofs.Common.{◌≡◌, ℕ, ◌+◌, ◌≤◌, ◌⊎◌, inl, inr, zero, suc, Bool, true, false, not, cond, ◌<◌, nat_lt, if◌then◌else◌, ◌||◌, List, [], ◌∷◌, ◌++◌, filter, length, slice_get, take, Option, Some, None, Result, Ok, Err, refl, sym, ap, subst, ◌∙◌, arith}
use Rattle.std.specs.Prelude.{ℤ, IfSome}
use Rattle.std.specs.List.{range_with_len}
use Rattle.std.proofs.lemmas.Bool.{cases_lt, false≢true, ltb-true, not-true, or_cases}
use Rattle.dp_base.specs.Results.{◌>>=◌}
use Rattle.dp_model.specs.Costs.{InRange, join_onto, ranged}
use Rattle.dp_model.specs.Evaluation.{num_value}
use Rattle.dp_model.specs.StepTexts.{ground_of}
use Rattle.dp_model.specs.declared.answers.FaultKind.{FaultKind}
use Rattle.dp_model.specs.declared.answers.Spot.{Spot}
use Rattle.dp_model.specs.declared.answers.Spot.TheVariants as spots
use Rattle.dp_model.specs.declared.parts.PlainState.{PlainState}
use Rattle.dp_model.specs.declared.parts.Transition.{Transition}
use Rattle.dp_model.specs.declared.trees.Num.{Num}
use Rattle.dp_model.specs.declared.whole.Model.{Model}
use Rattle.dp_steps.specs.Faults.{MayStep, MeetsIn}
use Rattle.dp_steps.specs.Lists.{Leads, Path}
use Rattle.dp_steps.specs.States.{Inner, IsForced, are_members, weight_of}
use Rattle.dp_claims.specs.Enough.{Has}
use Rattle.spot_eval.specs.Answers.{at_spot}
use Rattle.spot_eval.specs.Looks.{all_at, floor_at, floor_of, looked_at, tightest_at, with_better}
use Rattle.spot_eval.specs.Moves.{cost_at, effects_at, first_enabled, forced_of, goes_before, is_forced, joined_at, may_step_at, named_enabled, next_at, number_enabled}
use Rattle.spot_eval.specs.declared.tests.Tests.TheVariants.{Preconditions}
use Rattle.spot_eval.specs.declared.ends.SpotFault.{SpotFault}
use Rattle.spot_eval.specs.declared.looks.Look.{Look}
use Rattle.spot_eval.specs.declared.looks.Look.TheVariants as looks
use Rattle.replay_list.specs.declared.replayed.Reached.{Reached}
use Rattle.dom_store.specs.declared.past_node.PastNode.{PastNode}
use Rattle.visit_laws.specs.Fates.{is_on_arrival}
use Rattle.visit_laws.specs.Looks.{is_looked}
use Rattle.visit_laws.proofs.Fates.{looked_arrives}
use Rattle.visit_laws.proofs.Listed.{forced_listed}
use Rattle.visit_laws.proofs.Looks.{floor_faults, look_faults, looked_base}
use Rattle.visit_laws.proofs.Spots.{fault_there}
use Rattle.visit_laws.proofs.Steps.{cost_faults, effect_faults, fault_some, first_effect, next_fault, step_found}
use Rattle.visit_laws.proofs.Tests.{first_fault}
use Rattle.visit_laws.proofs.Transitions.{is_forced_there, may_step_faults, may_step_found}
use Rattle.replay_laws.proofs.Ends.{bind_err}
use Rattle.cert_types.specs.declared.cert.Cert.{Cert}
use Rattle.cert_laws.specs.Shown.{list_of}
use Rattle.cert_laws.specs.Checks.{covering, cut_fails, entered, entered_as, first_of, is_covered, is_high, led, led_if, looked_fails, moved, must, node_at, or_fault, step_fails, step_fails_if, stepped, steps_fail, successor_fails, taken_fails, unless_fault, walked}
use Rattle.cert_laws.specs.declared.answers.CertReason.{CertReason}
use Rattle.cert_laws.specs.declared.answers.CertReason.TheVariants as reasons
use Rattle.cert_laws.proofs.Fails.{accounts_found}
use Rattle.cert_laws.proofs.Lists.{has_head, has_none}
use Rattle.cert_laws.proofs.Moves.{leads_more}
use Rattle.cert_laws.proofs.Walks.{Led, entered_inner, found_node, moved_parts, node_found, reached, stepped_led}
use Rattle.cert_rows.specs.Faults.{CutMeets, Decides, DecidesAt, IsOfStep, IsStopped, MeetsAt, OpenMeets, StepMeets}

-- ---- parts of a check

fault_err : {A : Type 0} (r : Result A SpotFault) (reason : CertReason) → or_fault r ≡ Err reason → (met : SpotFault) × (r ≡ Err met)
fault_err (Ok x) reason h = absurd (cc)
fault_err (Err met) reason h = (met, refl)

fault_value : {A : Type 0} (r : Result A SpotFault) (x : A) → or_fault r ≡ Ok x → r ≡ Ok x
fault_value (Ok y) x h = let q : y ≡ x = cc in rw q refl
fault_value (Err met) x h = absurd (cc)

-- a part that fails by a fault is one, or goes on with a value and fails so there
pub unless_some : {A : Type 0} (go : A → Option CertReason) (r : Result A SpotFault) → unless_fault go r ≡ Some reasons.Fault → ((met : SpotFault) × (r ≡ Err met)) ⊎ ((x : A) × (r ≡ Ok x) × (go x ≡ Some reasons.Fault))
unless_some go (Ok x) h = inr (x, refl, h)
unless_some go (Err met) h = inl (met, refl)

pub must_no_fault : (b : Bool) (reason : CertReason) → (reason ≡ reasons.Fault → ⊥) → must b reason ≡ Some reasons.Fault → ⊥
must_no_fault true reason other h = cc
must_no_fault false reason other h = let same : reason ≡ reasons.Fault = cc in other same

node_no_fault : {A : Type 0} → ◌≡◌ {A = Result A CertReason} (Err reasons.Node) (Err reasons.Fault) → ⊥
node_no_fault h = cc

-- ---- in a state

-- the state that a transition leads to meets a fault in its weight, its cost or its effects
pub moved_meets : (m : Model) (prune : Bool) (here : Reached) (g : ℕ) (t : Transition × List ℕ) (met : SpotFault) → IfSome here.cost InRange → MayStep m here.state g → ground_of m g ≡ Some t → moved m here g t ≡ Err met
    → IsOfStep g met.spot × MeetsIn m prune here.cost here.state met.spot met.kind
moved_meets m prune here g t met range may there h =
    elim (bind_err (cost_at m here.state here.cost g t) (λ cost. next_at m here.state g t >>= λ next. Ok (reached next cost)) met h) [
      | inl e ↦ (of_cost e, cost_faults m prune here.cost here.state g t met may there e)
      | inr p ↦ elim (bind_err (next_at m here.state g t) (λ next. Ok (reached next p.0)) met p.2) [
        | inl e ↦ (of_effect e, effect_faults m prune here.cost here.state g t p.0 met range may there p.1 e)
        | inr q ↦ absurd (no_err q.0 p.0 q.2)
      ]
    ]
  where
    no_err : (next : PlainState) (cost : Option ℤ) → ◌≡◌ {A = Result Reached SpotFault} (Ok (reached next cost)) (Err met) → ⊥
    no_err next cost e = cc

    of_joined : (weight : Option ℤ) → joined_at m here.cost g weight ≡ Err met → IsOfStep g met.spot
    of_joined None e = absurd (cc)
    of_joined (Some w) e = rw (fault_some (spots.Cost g) (ranged (join_onto m.join here.cost w)) met e).1 refl

    of_cost : cost_at m here.state here.cost g t ≡ Err met → IsOfStep g met.spot
    of_cost e =
        elim (bind_err (at_spot (spots.Weight g) (weight_of m here.state t)) (joined_at m here.cost g) met e) [
          | inl f ↦ rw (fault_there (spots.Weight g) (weight_of m here.state t) met f).1 refl
          | inr f ↦ of_joined f.0 f.2
        ]

    of_effect : next_at m here.state g t ≡ Err met → IsOfStep g met.spot
    of_effect e = rw (first_effect m here.state g t.1 t.0.effects 0 met (next_fault here.state (effects_at m here.state g t.1 0 t.0.effects) met e)).spot refl

-- ---- on the way of a list

-- The list leads on from a state to one in which the fault is met, at one of these spots.
pub record MetOn (m : Model) (from : PlainState) (cost : Option ℤ) (steps : List ℕ) (At : Spot → Type 0) : Type 0 where
  pub to : PlainState
  pub total : Option ℤ
  pub leads : Leads m from cost steps to total
  pub spot : Spot
  pub kind : FaultKind
  pub is : At spot
  pub meets : MeetsIn m false total to spot kind

met_on : (m : Model) (steps : List ℕ) (At : Spot → Type 0) → MetOn m m.target None steps At → MeetsAt m false steps At
met_on m steps At on = (on.spot, on.kind, on.is, (on.to, on.total, on.leads, on.meets))

-- one of the spots of a look
abbrev pub Looked : Spot → Type 0
Looked spot = is_looked spot ≡ true

-- a state that is entered meets the fault
entered_met : (m : Model) (s : PlainState) (cost : Option ℤ) → entered m s cost ≡ Err reasons.Fault → MetOn m s cost [] Looked
entered_met m s cost h =
    elim (bind_err (or_fault (looked_at m false s cost)) (entered_as s cost) reasons.Fault h) [
      | inl e ↦ (let f = fault_err (looked_at m false s cost) reasons.Fault e in record {
        to = s;
        total = cost;
        leads = (refl, refl);
        spot = f.0.spot;
        kind = f.0.kind;
        is = ((look_faults m false cost s f.0).0 f.1).0;
        meets = ((look_faults m false cost s f.0).0 f.1).1;
      })
      | inr p ↦ absurd (no_look p.0 p.2)
    ]
  where
    no_look : (look : Look) → entered_as s cost look ≡ Err reasons.Fault → ⊥
    no_look looks.NotAllowed e = node_no_fault e
    no_look (looks.Base base) e = node_no_fault e
    no_look (looks.Open floor) e = cc

-- ---- before a step

-- a fault of preconditions is one of them
enabled_spot : (m : Model) (s : PlainState) (g : ℕ) (met : SpotFault) (o : Option (Transition × List ℕ)) → named_enabled m s g o ≡ Err met → (j : ℕ) × (met.spot ≡ spots.Precondition g j)
enabled_spot m s g met None e = absurd (cc)
enabled_spot m s g met (Some t) e = at_members (are_members s t.0.params t.1) e
  where
    at_members : (b : Bool) → (if b then all_at m s (Preconditions g) t.1 0 t.0.preconditions else Ok false) ≡ Err met → (j : ℕ) × (met.spot ≡ spots.Precondition g j)
    at_members true e = let f = first_fault m s (Preconditions g) t.1 t.0.preconditions 0 met e in (0 + f.place, f.spot)
    at_members false e = absurd (cc)

-- a fault of some transitions is one of theirs
first_spot : (m : Model) (s : PlainState) (gs : List ℕ) (met : SpotFault) → first_enabled m s gs ≡ Err met → (f : ℕ) × Has gs f × (number_enabled m s f ≡ Err met)
first_spot m s [] met e = absurd (cc)
first_spot m s (g ∷ gs) met e =
    elim (bind_err (number_enabled m s g) (λ enabled. if enabled then Ok (Some g) else first_enabled m s gs) met e) [
      | inl here ↦ (g, (0, refl), here)
      | inr p ↦ (let r = first_spot m s gs met (off p.0 p.2) in (r.0, (suc r.1.0, r.1.1), r.2))
    ]
  where
    off : (enabled : Bool) → (if enabled then Ok (Some g) else first_enabled m s gs) ≡ Err met → first_enabled m s gs ≡ Err met
    off true e = absurd (cc)
    off false e = e

-- what is kept by a test passes it, and was there
kept : (p : ℕ → Bool) (xs : List ℕ) (x : ℕ) → Has (filter p xs) x → (p x ≡ true) × Has xs x
kept p [] x h = absurd (has_none x h)
kept p (y ∷ xs) x h =
    elim (here (p y) refl h) [
      | inl first ↦ (first.0, (0, ap Some first.1))
      | inr later ↦ (let r = kept p xs x later in (r.0, (suc r.1.0, r.1.1)))
    ]
  where
    here : (b : Bool) → p y ≡ b → Has (cond b (y ∷ filter p xs) (filter p xs)) x → ((p x ≡ true) × (y ≡ x)) ⊎ Has (filter p xs) x
    here false e k = inr k
    here true e k = elim (has_head y (filter p xs) x k) [ inl same ↦ inl (subst (λ (z : ℕ). p z ≡ true) same e, same) | inr t ↦ inr t ]

-- a forced transition that goes before another
goes_where : (m : Model) (g f : ℕ) → goes_before m g f ≡ true → (f < g) ⊎ (IsForced m g → ⊥)
goes_where m g f e = cases (or_cases (nat_lt f g) (not (is_forced m g)) e)
  where
    cases : (nat_lt f g ≡ true) ⊎ (not (is_forced m g) ≡ true) → (f < g) ⊎ (IsForced m g → ⊥)
    cases (inl less) = inl (ltb-true f g less)
    cases (inr free) = inr (λ forced. false≢true (sym (not-true (is_forced m g) free) ∙ is_forced_there m g forced))

may_step_spot : (m : Model) (s : PlainState) (g : ℕ) (met : SpotFault) → may_step_at m s g ≡ Err met → Decides m g met.spot
may_step_spot m s g met e =
    elim (bind_err (first_enabled m s before) (λ first. alone first) met e) [
      | inl f ↦ (let one = first_spot m s before met f in
          let passes = kept (goes_before m g) (forced_of m) one.0 one.1 in
          let forced = (forced_listed m).1 one.0 in
          let spot = enabled_spot m s one.0 met (ground_of m one.0) one.2 in
          rw spot.1 (inr (forced.0 passes.1, goes_where m g one.0 passes.0)))
      | inr p ↦ own p.0 p.2
    ]
  where
    before : List ℕ
    before = filter (goes_before m g) (forced_of m)

    alone : Option ℕ → Result Bool SpotFault
    alone None = number_enabled m s g
    alone (Some f) = Ok false

    own : (first : Option ℕ) → alone first ≡ Err met → Decides m g met.spot
    own None e = let spot = enabled_spot m s g met (ground_of m g) e in rw spot.1 (inl refl)
    own (Some f) e = absurd (cc)

-- the spots of a step, and those of a look, decide
step_decides : (m : Model) (g : ℕ) (spot : Spot) → IsOfStep g spot → Decides m g spot
step_decides m g (spots.Constraint i) is = absurd is
step_decides m g (spots.BaseCondition i j) is = absurd is
step_decides m g (spots.BaseCost i) is = absurd is
step_decides m g (spots.Bound i) is = absurd is
step_decides m g (spots.Precondition h j) is = absurd is
step_decides m g spots.Total is = absurd is
step_decides m g (spots.Weight h) is = is
step_decides m g (spots.Cost h) is = is
step_decides m g (spots.Effect h i) is = is

look_decides_step : (m : Model) (g : ℕ) (spot : Spot) → is_looked spot ≡ true → Decides m g spot
look_decides_step m g (spots.Constraint i) is = is
look_decides_step m g (spots.BaseCondition i j) is = is
look_decides_step m g (spots.BaseCost i) is = is
look_decides_step m g (spots.Bound i) is = is
look_decides_step m g (spots.Precondition h j) is = absurd (false≢true is)
look_decides_step m g spots.Total is = is
look_decides_step m g (spots.Weight h) is = absurd (false≢true is)
look_decides_step m g (spots.Cost h) is = absurd (false≢true is)
look_decides_step m g (spots.Effect h i) is = absurd (false≢true is)

look_decides : (m : Model) (next : Option ℕ) (spot : Spot) → is_looked spot ≡ true → DecidesAt m next spot
look_decides m None spot is = is
look_decides m (Some g) spot is = look_decides_step m g spot is

-- ---- a step

module _ (m : Model) (here : Reached) (g : ℕ) (range : IfSome here.cost InRange) (inner : Inner m here.state) where
  -- before the step, or where it leads
  abbrev StepMet : Type 0
  StepMet = MetOn m here.state here.cost [] (Decides m g) ⊎ MetOn m here.state here.cost (g ∷ []) Looked

  met_here : (met : SpotFault) → Decides m g met.spot → MeetsIn m false here.cost here.state met.spot met.kind → StepMet
  met_here met is meets = inl (record { to = here.state; total = here.cost; leads = (refl, refl); spot = met.spot; kind = met.kind; is = is; meets = meets })

  led_met : (t : Transition × List ℕ) → MayStep m here.state g → ground_of m g ≡ Some t → led m here g (Some t) ≡ Err reasons.Fault → StepMet
  led_met t may there h =
      elim (bind_err (or_fault (moved m here g t)) (λ next. entered m next.state next.cost) reasons.Fault h) [
        | inl e ↦ (let f = fault_err (moved m here g t) reasons.Fault e in let met = moved_meets m false here g t f.0 range may there f.1 in met_here f.0 (step_decides m g f.0.spot met.0) met.1)
        | inr p ↦ (let parts = moved_parts m here g t p.0 (fault_value (moved m here g t) p.0 p.1) in
            let found = step_found m here.state here.cost g t p.0.cost p.0.state range may there parts.0 parts.1 in
            let on = entered_met m p.0.state p.0.cost p.2 in
            inr (record {
              to = on.to;
              total = on.total;
              leads = (p.0.state, found.0, found.1, subst (λ (c : Option ℤ). IfSome c InRange) found.2 found.3, subst (λ (c : Option ℤ). Leads m p.0.state c [] on.to on.total) found.2 on.leads);
              spot = on.spot;
              kind = on.kind;
              is = on.is;
              meets = on.meets;
            }))
      ]

  led_if_met : (may : Bool) → may_step_at m here.state g ≡ Ok may → led_if m here g may ≡ Err reasons.Fault → StepMet
  led_if_met false e h = absurd (node_no_fault h)
  led_if_met true e h =
      let may = (may_step_found m here.state g).0 e in
      led_met may.1.0 (inner, may.0, may.1) may.1.1 (sym (ap (led m here g) may.1.1) ∙ h)

  -- a step that is a fault meets it before, or in the state that it leads to
  stepped_met : stepped m here g ≡ Err reasons.Fault → StepMet
  stepped_met h =
      elim (bind_err (or_fault (may_step_at m here.state g)) (led_if m here g) reasons.Fault h) [
        | inl e ↦ (let f = fault_err (may_step_at m here.state g) reasons.Fault e in met_here f.0 (may_step_spot m here.state g f.0 f.1) (may_step_faults m false here.cost here.state g f.0 inner f.1))
        | inr p ↦ led_if_met p.0 (fault_value (may_step_at m here.state g) p.0 p.1) p.2
      ]

-- a front of the list does
record FrontOn (m : Model) (from : PlainState) (cost : Option ℤ) (steps : List ℕ) : Type 0 where
  pub done : ℕ
  pub within : done ≤ length steps
  pub on : MetOn m from cost (take done steps) (DecidesAt m (slice_get steps done))

walked_met : (m : Model) (here : Reached) (gs : List ℕ) → IfSome here.cost InRange → Inner m here.state → walked m here gs ≡ Err reasons.Fault → FrontOn m here.state here.cost gs
walked_met m here [] range inner h = absurd (cc)
walked_met m here (g ∷ gs) range inner h =
    elim (bind_err (stepped m here g) (λ next. walked m next gs) reasons.Fault h) [
      | inl e ↦ elim (stepped_met m here g range inner e) [
        | inl before ↦ record { done = zero; within = omega arith; on = before }
        | inr behind ↦ record { done = suc zero; within = omega arith; on = looked_on (g ∷ []) (slice_get gs 0) behind }
      ]
      | inr p ↦ (let s = stepped_led m here g range inner p.0 p.1 in later p.0 s (walked_met m p.0 gs s.in_range s.inner p.2))
    ]
  where
    looked_on : (steps : List ℕ) (next : Option ℕ) → MetOn m here.state here.cost steps Looked → MetOn m here.state here.cost steps (DecidesAt m next)
    looked_on steps next on = record { to = on.to; total = on.total; leads = on.leads; spot = on.spot; kind = on.kind; is = look_decides m next on.spot on.is; meets = on.meets }

    later : (next : Reached) → Led m here g next → FrontOn m next.state next.cost gs → FrontOn m here.state here.cost (g ∷ gs)
    later next s rest =
        record {
          done = suc rest.done;
          within = omega (arith, rest.within);
          on = record {
            to = rest.on.to;
            total = rest.on.total;
            leads =
                (next.state, s.weight, s.step, subst (λ (c : Option ℤ). IfSome c InRange) s.cost s.in_range, subst (λ (c : Option ℤ). Leads m next.state c (take rest.done gs) rest.on.to rest.on.total) s.cost rest.on.leads);
            spot = rest.on.spot;
            kind = rest.on.kind;
            is = rest.on.is;
            meets = rest.on.meets;
          };
        }

-- what is found of a list in a state that is entered first
abbrev pub Walk : Model → PlainState → Option ℤ → List ℕ → Result Reached CertReason
Walk m s cost gs = entered m s cost >>= λ here. walked m here gs

-- a list of which a fault is found is stopped by it
pub list_met : (m : Model) (steps : List ℕ) → Walk m m.target None steps ≡ Err reasons.Fault → IsStopped m steps
list_met m steps h =
    elim (bind_err (entered m m.target None) (λ here. walked m here steps) reasons.Fault h) [
      | inl e ↦ record { done = zero; within = omega arith; meets = at_once (slice_get steps 0) (met_on m [] Looked (entered_met m m.target None e)) }
      | inr p ↦ (let e = entered_inner m m.target None p.0 p.1 in
          let on = walked_met m (reached m.target None) steps tt e.inner (subst (λ (x : Reached). walked m x steps ≡ Err reasons.Fault) (sym e.same) p.2) in
          record { done = on.done; within = on.within; meets = met_on m (take on.done steps) (DecidesAt m (slice_get steps on.done)) on.on })
    ]
  where
    at_once : (next : Option ℕ) → MeetsAt m false [] Looked → MeetsAt m false [] (DecidesAt m next)
    at_once next meets = (meets.0, meets.1, look_decides m next meets.0 meets.2, meets.3)

-- ---- a cut node

bound_spot : (m : Model) (s : PlainState) (i : ℕ) (best : Option ℤ) (es : List Num) (met : SpotFault) → tightest_at m s i best es ≡ Err met → (k : ℕ) × (met.spot ≡ spots.Bound k)
bound_spot m s i best [] met h = absurd (cc)
bound_spot m s i best (e ∷ es) met h =
    elim (bind_err (at_spot (spots.Bound i) (num_value m s e [])) (λ (bound : ℤ). tightest_at m s (i + 1) (with_better (not m.minimize) best (Some bound)) es) met h) [
      | inl f ↦ (i, (fault_there (spots.Bound i) (num_value m s e []) met f).1)
      | inr p ↦ bound_spot m s (i + 1) (with_better (not m.minimize) best (Some p.0)) es met p.2
    ]

floor_spot : (m : Model) (prune : Bool) (s : PlainState) (cost : Option ℤ) (met : SpotFault) → floor_at m prune s cost ≡ Err met → (k : ℕ) × (met.spot ≡ spots.Bound k)
floor_spot m false s cost met h = absurd (cc)
floor_spot m true s cost met h =
    elim (bind_err (tightest_at m s 0 None m.bounds) (λ (bound : Option ℤ). Ok (floor_of m cost bound)) met h) [
      | inl f ↦ bound_spot m s 0 None m.bounds met f
      | inr p ↦ (let clash : ◌≡◌ {A = Result (Option ℤ) SpotFault} (Ok (floor_of m cost p.0)) (Err met) = p.2 in absurd (cc))
    ]

pub cut_met : (m : Model) (cert : Cert) (l place : ℕ) (here : Reached) → Path m (list_of cert.layers l place) here.state here.cost → Inner m here.state → cut_fails m cert here ≡ Some reasons.Fault → CutMeets m cert l place
cut_met m cert l place here path inner h =
    elim (unless_some (λ floor. must (is_high m cert.claim floor) reasons.Cut) (floor_at m cert.prune here.state here.cost) h) [
      | inl f ↦ (let spot = floor_spot m cert.prune here.state here.cost f.0 f.1 in
          let meets = floor_faults m cert.prune here.cost here.state f.0 inner f.1 in
          (spot.0, f.0.kind, (here.state, here.cost, path, subst (λ (x : Spot). MeetsIn m cert.prune here.cost here.state x f.0.kind) spot.1 meets)))
      | inr p ↦ absurd (must_no_fault (is_high m cert.claim p.0) reasons.Cut (λ e. cc) p.2)
    ]

-- ---- an open node

-- a successor meets the fault
abbrev Arrives : Model → Cert → Reached → Type 0
Arrives m cert next = (spot : Spot) × (kind : FaultKind) × (is_on_arrival spot ≡ true) × MeetsIn m cert.prune next.cost next.state spot kind

successor_met : (m : Model) (cert : Cert) (past : List PastNode) (next : Reached) → looked_fails m cert past next ≡ Some reasons.Fault → Arrives m cert next
successor_met m cert past next h =
    elim (unless_some (successor_fails m cert past next.state next.cost) (looked_at m cert.prune next.state next.cost) h) [
      | inl f ↦ (let met = (look_faults m cert.prune next.cost next.state f.0).0 f.1 in (f.0.spot, f.0.kind, looked_arrives f.0.spot met.0, met.1))
      | inr p ↦ by_look p.0 p.1 p.2
    ]
  where
    by_look : (look : Look) → looked_at m cert.prune next.state next.cost ≡ Ok look → successor_fails m cert past next.state next.cost look ≡ Some reasons.Fault → Arrives m cert next
    by_look looks.NotAllowed e fails = absurd (cc)
    by_look (looks.Open floor) e fails = absurd (must_no_fault (is_high m cert.claim floor || is_covered m cert.prune past next.state next.cost) reasons.Step (λ e. cc) fails)
    by_look (looks.Base base) e fails =
        elim (unless_some {A = ℤ} (λ (total : ℤ). must (is_high m cert.claim (Some total)) reasons.Step) (at_spot spots.Total (ranged (join_onto m.join next.cost base))) fails) [
          | inl f ↦ (let is = (looked_base m cert.prune next.state next.cost base).0 e in
              let told = fault_there spots.Total (ranged (join_onto m.join next.cost base)) f.0 f.1 in
              (spots.Total, f.0.kind, refl, ((base, is), (base, is, told.0))))
          | inr p ↦ absurd (must_no_fault (is_high m cert.claim (Some p.0)) reasons.Step (λ e. cc) p.2)
        ]

module _ (m : Model) (cert : Cert) (past : List PastNode) (steps : List ℕ) (here : Reached) (path : Path m steps here.state here.cost) (range : IfSome here.cost InRange) (inner : Inner m here.state) (g : ℕ) where
  taken_met : (t : Transition × List ℕ) → MayStep m here.state g → ground_of m g ≡ Some t → taken_fails m cert past here g (Some t) ≡ Some reasons.Fault → StepMeets m cert.prune steps g
  taken_met t may there h =
      elim (unless_some (looked_fails m cert past) (moved m here g t) h) [
        | inl f ↦ (let met = moved_meets m cert.prune here g t f.0 range may there f.1 in inl (f.0.spot, f.0.kind, met.0, (here.state, here.cost, path, met.1)))
        | inr p ↦ (let parts = moved_parts m here g t p.0 p.1 in
            let found = step_found m here.state here.cost g t p.0.cost p.0.state range may there parts.0 parts.1 in
            let met = successor_met m cert past p.0 p.2 in
            let more = leads_more m m.target None steps here.state here.cost path g p.0.state found.0 found.1 (subst (λ (c : Option ℤ). IfSome c InRange) found.2 found.3) in
            inr (met.0, met.1, met.2, (p.0.state, p.0.cost, subst (λ (c : Option ℤ). Path m (steps ++ g ∷ []) p.0.state c) (sym found.2) more, met.3)))
      ]

  step_if_met : (r : Result Bool SpotFault) → may_step_at m here.state g ≡ r → step_fails_if m cert past here g r ≡ Some reasons.Fault → StepMeets m cert.prune steps g
  step_if_met (Ok false) e h = absurd (cc)
  step_if_met (Err met) e h = absurd (cc)
  step_if_met (Ok true) e h =
      let may = (may_step_found m here.state g).0 e in
      taken_met may.1.0 (inner, may.0, may.1) may.1.1 (sym (ap (taken_fails m cert past here g) may.1.1) ∙ h)

  pub step_met : step_fails m cert past here g ≡ Some reasons.Fault → StepMeets m cert.prune steps g
  step_met h = step_if_met (may_step_at m here.state g) refl h

some_or : (o : Option CertReason) → (o ≡ None) ⊎ ((r : CertReason) × (o ≡ Some r))
some_or None = inl refl
some_or (Some r) = inr (r, refl)

-- the first of some numbers in a row that is there, before which none is
record FirstOf (fails : ℕ → Option CertReason) (from : ℕ) (reason : CertReason) : Type 0 where
  pub g : ℕ
  pub is : fails g ≡ Some reason
  pub before : (h : ℕ) → from ≤ h → h < g → fails h ≡ None

first_there : (fails : ℕ → Option CertReason) (from n : ℕ) (reason : CertReason) → first_of fails (range_with_len from n) ≡ Some reason → FirstOf fails from reason
first_there fails from zero reason h = absurd (cc)
first_there fails from (suc n) reason h =
    elim (some_or (fails from)) [
      | inl none ↦ (let r = first_there fails (from + 1) n reason (rw none at h) in record { g = r.g; is = r.is; before = λ k low less. earlier r none k less (cases_lt from k) low })
      | inr some ↦ (let same : Some some.0 ≡ Some reason = rw some.1 at h in record { g = from; is = some.1 ∙ same; before = λ k low less. absurd (omega arith) })
    ]
  where
    earlier : (r : FirstOf fails (from + 1) reason) → fails from ≡ None → (k : ℕ) → k < r.g → (from < k) ⊎ (k ≤ from) → from ≤ k → fails k ≡ None
    earlier r none k less (inl above) low = r.before k (omega arith) less
    earlier r none k less (inr below) low = let at : from ≡ k = omega arith in subst (λ (j : ℕ). fails j ≡ None) at none

pub open_met : (m : Model) (cert : Cert) (l place : ℕ) (here : Reached) → node_at m cert l place ≡ Ok here → steps_fail m cert (covering m cert cert.keep (l + 1)) here ≡ Some reasons.Fault → OpenMeets m cert l place
open_met m cert l place here e h =
    let found = node_found m cert l place here e in
    let past = covering m cert cert.keep (l + 1) in
    let one = first_there (step_fails m cert past here) 0 (length m.dp_ground) reasons.Fault h in
    record {
      g = one.g;
      meets = step_met m cert past (list_of cert.layers l place) here found.path found.in_range found.inner one.g one.is;
      before = λ s cost stands k less considered enabled.
          (let same : here ≡ reached s cost = ok_same here (reached s cost) (sym e ∙ found_node m cert l place s cost stands.path stands.inner) in
          accounts_found m cert l s cost (subst (λ (x : Reached). IfSome x.cost InRange) same found.in_range) stands.inner k
          (subst (λ (x : Reached). step_fails m cert past x k ≡ None) same (one.before k (omega arith) less)) considered enabled);
    }
  where
    ok_same : (a b : Reached) → ◌≡◌ {A = Result Reached CertReason} (Ok a) (Ok b) → a ≡ b
    ok_same a b e = cc
