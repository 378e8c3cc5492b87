-- The replay of a claimed list tells a fault exactly where one stops the list, or where it has no total.
use Rattle.std.proofs.Common.{◌≡◌, ℕ, ◌+◌, ◌⊎◌, inl, inr, Bool, true, false, List, [], ◌∷◌, filter, length, Option, Some, None, Result, Ok, Err, refl, sym, subst, ◌∙◌}
use Rattle.std.specs.Prelude.{ℤ, IfSome}
use Rattle.dp_base.specs.Results.{◌>>=◌}
use Rattle.dp_model.specs.Costs.{InRange, join_onto, ranged}
use Rattle.dp_model.specs.StepTexts.{ground_of}
use Rattle.dp_model.specs.declared.answers.FaultKind.{FaultKind}
use Rattle.dp_model.specs.declared.answers.Reason.TheVariants as why
use Rattle.dp_model.specs.declared.answers.Spot.{Spot}
use Rattle.dp_model.specs.declared.answers.Spot.TheVariants as spots
use Rattle.dp_model.specs.declared.parts.PlainState.{PlainState}
use Rattle.dp_model.specs.declared.parts.Transition.{Transition}
use Rattle.dp_model.specs.declared.whole.Model.{Model}
use Rattle.dp_steps.specs.Faults.{MeetsIn}
use Rattle.dp_steps.specs.Lists.{Leads}
use Rattle.dp_steps.specs.States.{Base}
use Rattle.spot_eval.specs.Answers.{at_spot}
use Rattle.spot_eval.specs.Looks.{allowed_at, best_case, looked_at}
use Rattle.spot_eval.specs.Moves.{cost_at, first_enabled, forced_of, goes_before, next_at, number_enabled}
use Rattle.spot_eval.specs.declared.ends.SpotFault.{SpotFault}
use Rattle.spot_eval.specs.declared.looks.Look.TheVariants as looks
use Rattle.replay_list.specs.Replays as replays
use Rattle.replay_list.specs.declared.replayed.Reached.{Reached}
use Rattle.replay_list.specs.declared.replayed.Replayed.TheVariants.{Faulted}
use Rattle.replay_list.specs.declared.replayed.Stop.{Stop}
use Rattle.replay_list.specs.declared.replayed.Stop.TheVariants as stops
use Rattle.replay_laws.proofs.Ends.{after_err, after_ok, base_err, base_ok, bind_err, bind_ok, fault_err}
use Rattle.replay_laws.proofs.Steps as steps
use Rattle.visit_laws.proofs.BaseCases.{base_best}
use Rattle.visit_laws.proofs.Constraints.{allowed_found}
use Rattle.visit_laws.proofs.Looks.{looked_base}
use Rattle.visit_laws.proofs.Spots.{bind_assoc, fault_there}
use Rattle.cert_laws.specs.Checks.{entered, stepped, walked}
use Rattle.cert_laws.specs.declared.answers.CertReason.{CertReason}
use Rattle.cert_laws.specs.declared.answers.CertReason.TheVariants as reasons
use Rattle.cert_laws.proofs.Walks.{reached}
use Rattle.cert_rows.specs.Faults.{IsStopped, TotalMeets}
use Rattle.cert_rows.proofs.Meeting.{Walk, list_met}
use Rattle.cert_rows.proofs.Telling.{stopped_list}

-- ---- a state and a step, as both find them

-- what a look finds, where the base cases are found so
abbrev LooksAs : Model → PlainState → Option ℤ → Result (Option ℤ) Stop → Type 0
LooksAs m s cost (Ok None) = looked_at m false s cost ≡ Ok (looks.Open None)
LooksAs m s cost (Ok (Some base)) = looked_at m false s cost ≡ Ok (looks.Base base)
LooksAs m s cost (Err (stops.Fault met)) = looked_at m false s cost ≡ Err met
LooksAs m s cost (Err (stops.Illegal reason)) = looked_at m false s cost ≡ Ok looks.NotAllowed

base_look : (m : Model) (s : PlainState) (cost : Option ℤ) → LooksAs m s cost (replays.base_here m s)
base_look m s cost = by_allowed (allowed_at m s) refl
  where
    by_cases : (r : Result (Option ℤ) SpotFault) → best_case m s 0 None m.base_cases ≡ r → allowed_at m s ≡ Ok true → LooksAs m s cost (replays.or_fault r)
    by_cases (Ok None) q e = rw (e, q) refl
    by_cases (Ok (Some base)) q e = rw (e, q) refl
    by_cases (Err met) q e = rw (e, q) refl

    by_allowed : (r : Result Bool SpotFault) → allowed_at m s ≡ r → LooksAs m s cost (replays.or_fault r >>= λ allowed. replays.only_if allowed (stops.Illegal why.NotAllowed) (replays.or_fault (best_case m s 0 None m.base_cases)))
    by_allowed (Ok true) q = by_cases (best_case m s 0 None m.base_cases) refl q
    by_allowed (Ok false) q = rw q refl
    by_allowed (Err met) q = rw q refl

looks_as : (m : Model) (s : PlainState) (cost : Option ℤ) (v : Result (Option ℤ) Stop) → replays.base_here m s ≡ v → LooksAs m s cost v
looks_as m s cost v e = subst (LooksAs m s cost) e (base_look m s cost)

-- what is found of a step, where the replay finds this of it
abbrev StepsAs : Model → Reached → ℕ → Result Reached Stop → Type 0
StepsAs m here g (Ok next) = stepped m here g ≡ entered m next.state next.cost
StepsAs m here g (Err (stops.Fault met)) = stepped m here g ≡ Err reasons.Fault
StepsAs m here g (Err (stops.Illegal reason)) = stepped m here g ≡ Err reasons.Node

module _ (m : Model) (here : Reached) (g : ℕ) where
  abbrev Before : Result (Option ℕ) SpotFault
  Before = first_enabled m here.state (filter (goes_before m g) (forced_of m))

  step_next : (t : Transition × List ℕ) (cost : Option ℤ) (r : Result PlainState SpotFault) → next_at m here.state g t ≡ r → cost_at m here.state here.cost g t ≡ Ok cost → ground_of m g ≡ Some t → number_enabled m here.state g ≡ Ok true → Before ≡ Ok None
      → StepsAs m here g (replays.or_fault r >>= λ next. Ok (reached next cost))
  step_next t cost (Ok next) q c is e f = rw (f, e) (rw is (rw (c, q) refl))
  step_next t cost (Err met) q c is e f = rw (f, e) (rw is (rw (c, q) refl))

  step_cost : (t : Transition × List ℕ) (r : Result (Option ℤ) SpotFault) → cost_at m here.state here.cost g t ≡ r → ground_of m g ≡ Some t → number_enabled m here.state g ≡ Ok true → Before ≡ Ok None
      → StepsAs m here g (replays.or_fault r >>= λ cost. replays.or_fault (next_at m here.state g t) >>= λ next. Ok (reached next cost))
  step_cost t (Ok cost) q is e f = step_next t cost (next_at m here.state g t) refl q is e f
  step_cost t (Err met) q is e f = rw (f, e) (rw is (rw q refl))

  step_ground : (o : Option (Transition × List ℕ)) → ground_of m g ≡ o → number_enabled m here.state g ≡ Ok true → Before ≡ Ok None → StepsAs m here g (replays.led m here g o)
  step_ground None q e f = rw (f, e) (rw q refl)
  step_ground (Some t) q e f = step_cost t (cost_at m here.state here.cost g t) refl q e f

  step_enabled : (r : Result Bool SpotFault) → number_enabled m here.state g ≡ r → Before ≡ Ok None → StepsAs m here g (replays.or_fault r >>= λ enabled. replays.only_if enabled (stops.Illegal why.NotEnabled) (replays.led m here g (ground_of m g)))
  step_enabled (Ok true) q f = step_ground (ground_of m g) refl q f
  step_enabled (Ok false) q f = rw (f, q) refl
  step_enabled (Err met) q f = rw (f, q) refl

  step_first : (r : Result (Option ℕ) SpotFault) → Before ≡ r → StepsAs m here g (replays.or_fault r >>= λ first. replays.unless_forced first (replays.led_if m here g))
  step_first (Ok None) q = step_enabled (number_enabled m here.state g) refl q
  step_first (Ok (Some f)) q = rw q refl
  step_first (Err met) q = rw q refl

  steps_as : (v : Result Reached Stop) → replays.chosen m here g ≡ v → StepsAs m here g v
  steps_as v e = subst (StepsAs m here g) e (step_first Before refl)

-- ---- the whole list

-- what is left of a replay
abbrev Rest : Model → (done : ℕ) → (all : ℕ) → Reached → List ℕ → Result ℤ (ℕ × Stop)
Rest m done all here gs = replays.walked m done here gs >>= λ there. replays.after all (replays.ended m there)

-- the list leads on to a base state, and the total there is a fault
record TotalOn (m : Model) (here : Reached) (gs : List ℕ) : Type 0 where
  pub to : PlainState
  pub total : Option ℤ
  pub leads : Leads m here.state here.cost gs to total
  pub kind : FaultKind
  pub meets : MeetsIn m false total to spots.Total kind

abbrev Faults : Model → Reached → List ℕ → Type 0
Faults m here gs = (Walk m here.state here.cost gs ≡ Err reasons.Fault) ⊎ TotalOn m here gs

looked_faults : (m : Model) (here : Reached) (gs : List ℕ) (met : SpotFault) → looked_at m false here.state here.cost ≡ Err met → Walk m here.state here.cost gs ≡ Err reasons.Fault
looked_faults m here gs met e = rw e refl

end_faults : (m : Model) (here : Reached) (met : SpotFault) → replays.ended m here ≡ Err (stops.Fault met) → Faults m here []
end_faults m here met h =
    elim (bind_err (replays.base_here m here.state) (replays.total_of m here.cost) (stops.Fault met) h) [
      | inl e ↦ inl (looked_faults m here [] met (looks_as m here.state here.cost (Err (stops.Fault met)) e))
      | inr p ↦ by_base p.0 p.1 p.2
    ]
  where
    by_base : (base : Option ℤ) → replays.base_here m here.state ≡ Ok base → replays.total_of m here.cost base ≡ Err (stops.Fault met) → Faults m here []
    by_base None e f = absurd (cc)
    by_base (Some base) e f =
        let is = (looked_base m false here.state here.cost base).0 (looks_as m here.state here.cost (Ok (Some base)) e) in
        let fault = fault_err (at_spot spots.Total (ranged (join_onto m.join here.cost base))) (stops.Fault met) f in
        let told = fault_there spots.Total (ranged (join_onto m.join here.cost base)) fault.0 fault.1 in
        inr (record { to = here.state; total = here.cost; leads = (refl, refl); kind = fault.0.kind; meets = ((base, is), (base, is, told.0)) })

step_faults : (m : Model) (here : Reached) (g : ℕ) (gs : List ℕ) (met : SpotFault) → replays.stepped m here g ≡ Err (stops.Fault met) → Walk m here.state here.cost (g ∷ gs) ≡ Err reasons.Fault
step_faults m here g gs met h =
    elim (bind_err (replays.base_here m here.state) (λ base. replays.unless_base base (replays.chosen m here g)) (stops.Fault met) h) [
      | inl e ↦ looked_faults m here (g ∷ gs) met (looks_as m here.state here.cost (Err (stops.Fault met)) e)
      | inr p ↦ elim (base_err p.0 (replays.chosen m here g) (stops.Fault met) p.2) [
        | inl base ↦ absurd (no_stop base.2)
        | inr none ↦ (let look = looks_as m here.state here.cost (Ok None) (p.1 ∙ ok_none p.0 none.0) in rw look (rw (steps_as m here g (Err (stops.Fault met)) none.1) refl))
      ]
    ]
  where
    no_stop : stops.Fault met ≡ stops.Illegal why.AfterBase → ⊥
    no_stop e = cc

    ok_none : (base : Option ℤ) → base ≡ None → ◌≡◌ {A = Result (Option ℤ) Stop} (Ok base) (Ok None)
    ok_none base e = rw e refl

-- a step that the replay takes enters the next state
step_goes : (m : Model) (here next : Reached) (g : ℕ) (gs : List ℕ) → replays.stepped m here g ≡ Ok next → Walk m here.state here.cost (g ∷ gs) ≡ Walk m next.state next.cost gs
step_goes m here next g gs h =
    let p = bind_ok (replays.base_here m here.state) (λ base. replays.unless_base base (replays.chosen m here g)) next h in
    let q = base_ok p.0 (replays.chosen m here g) next p.2 in
    let look = looks_as m here.state here.cost (Ok None) (p.1 ∙ ok_none p.0 q.0) in
    rw look (rw (steps_as m here g (Ok next) q.1) refl)
  where
    ok_none : (base : Option ℤ) → base ≡ None → ◌≡◌ {A = Result (Option ℤ) Stop} (Ok base) (Ok None)
    ok_none base e = rw e refl

rest_faults : (m : Model) (done all : ℕ) (here : Reached) (gs : List ℕ) (k : ℕ) (met : SpotFault) → IfSome here.cost InRange → Rest m done all here gs ≡ Err (k, stops.Fault met) → Faults m here gs
rest_faults m done all here [] k met range h = end_faults m here met (after_err all (replays.ended m here) (k, stops.Fault met) h).0
rest_faults m done all here (g ∷ gs) k met range h =
    let first = replays.after done (replays.stepped m here g) in
    let assoc = bind_assoc first (λ (next : Reached). replays.walked m (done + 1) next gs) (λ (there : Reached). replays.after all (replays.ended m there)) in
    elim (bind_err first (λ (next : Reached). Rest m (done + 1) all next gs) (k, stops.Fault met) (sym assoc ∙ h)) [
      | inl e ↦ inl (step_faults m here g gs met (after_err done (replays.stepped m here g) (k, stops.Fault met) e).0)
      | inr p ↦ (let e = after_ok done (replays.stepped m here g) p.0 p.1 in
          let s = steps.stepped_leads m here g range p.0 e in
          later p.0 e s (rest_faults m (done + 1) all p.0 gs k met s.in_range p.2))
    ]
  where
    later : (next : Reached) → replays.stepped m here g ≡ Ok next → steps.Leads m here g next → Faults m next gs → Faults m here (g ∷ gs)
    later next e s (inl walk) = inl (step_goes m here next g gs e ∙ walk)
    later next e s (inr on) =
        inr (record {
          to = on.to;
          total = on.total;
          leads = (next.state, s.weight, s.step, subst (λ (c : Option ℤ). IfSome c InRange) s.cost s.in_range, subst (λ (c : Option ℤ). Leads m next.state c gs on.to on.total) s.cost on.leads);
          kind = on.kind;
          meets = on.meets;
        })

-- a fault that a replay tells
pub replay_met : (m : Model) (gs : List ℕ) (done : ℕ) (spot : Spot) (kind : FaultKind) → replays.replayed m gs ≡ Faulted done spot kind → IsStopped m gs ⊎ TotalMeets m gs
replay_met m gs done spot kind h = by (replays.totalled m gs) refl h
  where
    stopped_by : (k : ℕ) (stop : Stop) → replays.totalled m gs ≡ Err (k, stop) → replays.stopped k stop ≡ Faulted done spot kind → IsStopped m gs ⊎ TotalMeets m gs
    stopped_by k (stops.Illegal reason) e f = absurd (cc)
    stopped_by k (stops.Fault met) e f =
        elim (rest_faults m 0 (length gs) (replays.start m) gs k met tt e) [
          | inl walk ↦ inl (list_met m gs walk)
          | inr on ↦ inr (on.kind, (on.to, on.total, on.leads, on.meets))
        ]

    by : (r : Result ℤ (ℕ × Stop)) → replays.totalled m gs ≡ r → replays.told_of r ≡ Faulted done spot kind → IsStopped m gs ⊎ TotalMeets m gs
    by (Ok total) e f = absurd (cc)
    by (Err end) e f = stopped_by end.0 end.1 e f

-- ---- the other way round

-- a replay that ends with a fault
abbrev Ends : Model → (done all : ℕ) → Reached → List ℕ → Type 0
Ends m done all here gs = (k : ℕ) × (met : SpotFault) × (Rest m done all here gs ≡ Err (k, stops.Fault met))

node_no_fault : ◌≡◌ {A = Result Reached CertReason} (Err reasons.Node) (Err reasons.Fault) → ⊥
node_no_fault e = cc

ends_at_once : (m : Model) (done all : ℕ) (here : Reached) (v : Result (Option ℤ) Stop) → replays.base_here m here.state ≡ v → LooksAs m here.state here.cost v → Walk m here.state here.cost [] ≡ Err reasons.Fault → Ends m done all here []
ends_at_once m done all here (Err (stops.Fault met)) q look walk = (all, met, rw q refl)
ends_at_once m done all here (Err (stops.Illegal reason)) q look walk = absurd (node_no_fault (rw look at walk))
ends_at_once m done all here (Ok (Some base)) q look walk = absurd (node_no_fault (rw look at walk))
ends_at_once m done all here (Ok None) q look walk = let clash : ◌≡◌ {A = Result Reached CertReason} (Ok here) (Err reasons.Fault) = rw look at walk in absurd (cc)

-- a step after a state that is inner
chosen_ends : (m : Model) (done all : ℕ) (here : Reached) (g : ℕ) (gs : List ℕ) (v : Result Reached Stop) → replays.base_here m here.state ≡ Ok None → replays.chosen m here g ≡ v → StepsAs m here g v → (stepped m here g >>= λ next. walked m next gs) ≡ Err reasons.Fault
    → ((next : Reached) → Walk m next.state next.cost gs ≡ Err reasons.Fault → Ends m (done + 1) all next gs) → Ends m done all here (g ∷ gs)
chosen_ends m done all here g gs (Err (stops.Fault met)) base q step walk rest = (done, met, rw base (rw q refl))
chosen_ends m done all here g gs (Err (stops.Illegal reason)) base q step walk rest = absurd (node_no_fault (rw step at walk))
chosen_ends m done all here g gs (Ok next) base q step walk rest =
    let r = rest next (rw step at walk) in
    (r.0, r.1, rw base (rw q r.2))

step_ends : (m : Model) (done all : ℕ) (here : Reached) (g : ℕ) (gs : List ℕ) (v : Result (Option ℤ) Stop) → replays.base_here m here.state ≡ v → LooksAs m here.state here.cost v → Walk m here.state here.cost (g ∷ gs) ≡ Err reasons.Fault
    → ((next : Reached) → Walk m next.state next.cost gs ≡ Err reasons.Fault → Ends m (done + 1) all next gs) → Ends m done all here (g ∷ gs)
step_ends m done all here g gs (Err (stops.Fault met)) q look walk rest = (done, met, rw q refl)
step_ends m done all here g gs (Err (stops.Illegal reason)) q look walk rest = absurd (node_no_fault (rw look at walk))
step_ends m done all here g gs (Ok (Some base)) q look walk rest = absurd (node_no_fault (rw look at walk))
step_ends m done all here g gs (Ok None) q look walk rest = chosen_ends m done all here g gs (replays.chosen m here g) q refl (steps_as m here g (replays.chosen m here g) refl) (rw look at walk) rest

walk_ends : (m : Model) (done all : ℕ) (here : Reached) (gs : List ℕ) → Walk m here.state here.cost gs ≡ Err reasons.Fault → Ends m done all here gs
walk_ends m done all here [] walk = ends_at_once m done all here (replays.base_here m here.state) refl (base_look m here.state here.cost) walk
walk_ends m done all here (g ∷ gs) walk = step_ends m done all here g gs (replays.base_here m here.state) refl (base_look m here.state here.cost) walk (λ next. walk_ends m (done + 1) all next gs)

base_there : (m : Model) (s : PlainState) (base : ℤ) → Base m s base → replays.base_here m s ≡ Ok (Some base)
base_there m s base is = rw ((allowed_found m s).1 is.allowed, base_best m s base is) refl

-- a path to a base state whose total is a fault
total_ends : (m : Model) (done all : ℕ) (here : Reached) (gs : List ℕ) (to : PlainState) (total : Option ℤ) (kind : FaultKind) → IfSome here.cost InRange → Leads m here.state here.cost gs to total → MeetsIn m false total to spots.Total kind → Ends m done all here gs
total_ends m done all here [] to total kind range leads meets =
    let there : MeetsIn m false here.cost here.state spots.Total kind = subst (λ (s : PlainState). MeetsIn m false here.cost s spots.Total kind) (sym leads.0) (subst (λ (c : Option ℤ). MeetsIn m false c to spots.Total kind) (sym leads.1) meets) in
    let base = base_there m here.state there.1.0 there.1.1 in
    (all, record { spot = spots.Total; kind = kind }, rw base (rw there.1.2 refl))
total_ends m done all here (g ∷ gs) to total kind range leads meets =
    let taken = steps.step_taken m here g range leads.1 leads.0 leads.2 leads.3 in
    let r = total_ends m (done + 1) all (reached leads.0 _) gs to total kind leads.3 leads.4 meets in
    (r.0, r.1, rw taken r.2)

-- a fault that is met is told by the replay
pub met_replay : (m : Model) (gs : List ℕ) → IsStopped m gs ⊎ TotalMeets m gs → (done : ℕ) × (spot : Spot) × (kind : FaultKind) × (replays.replayed m gs ≡ Faulted done spot kind)
met_replay m gs (inl stopped) = let e = walk_ends m 0 (length gs) (replays.start m) gs (stopped_list m gs stopped) in (e.0, e.1.spot, e.1.kind, rw e.2 refl)
met_replay m gs (inr total) = let e = total_ends m 0 (length gs) (replays.start m) gs total.1.0 total.1.1 total.0 tt total.1.2 total.1.3 in (e.0, e.1.spot, e.1.kind, rw e.2 refl)
