-- Where the lists of nodes lead, as the check finds it and as the model means it.
use Rattle.std.proofs.Common.{◌≡◌, ℕ, Bool, true, false, List, [], ◌∷◌, Option, Some, None, Result, Ok, Err, refl, sym, ap, subst, ◌∙◌}
use Rattle.std.specs.Prelude.{ℤ, IfSome}
use Rattle.dp_base.specs.Results.{◌>>=◌}
use Rattle.dp_model.specs.Costs.{InRange, join}
use Rattle.dp_model.specs.StepTexts.{ground_of}
use Rattle.dp_model.specs.declared.parts.Transition.{Transition}
use Rattle.dp_model.specs.declared.parts.PlainState.{PlainState}
use Rattle.dp_model.specs.declared.whole.Model.{Model}
use Rattle.dp_steps.specs.Lists.{Leads, Path}
use Rattle.dp_steps.specs.States.{Considered, Enabled, Inner, Step}
use Rattle.spot_eval.specs.Looks.{looked_at}
use Rattle.spot_eval.specs.Moves.{cost_at, may_step_at, next_at}
use Rattle.spot_eval.specs.declared.ends.SpotFault.{SpotFault}
use Rattle.spot_eval.specs.declared.looks.Look.{Look}
use Rattle.spot_eval.specs.declared.looks.Look.TheVariants as looks
use Rattle.replay_list.specs.declared.replayed.Reached.{Reached}
use Rattle.cert_types.specs.declared.cert.Cert.{Cert}
use Rattle.visit_laws.proofs.Looks.{looked_open}
use Rattle.visit_laws.proofs.Steps.{step_found, step_made}
use Rattle.visit_laws.proofs.Transitions.{may_step_found}
use Rattle.replay_laws.proofs.Ends.{bind_ok}
use Rattle.cert_laws.specs.Shown.{list_of}
use Rattle.cert_laws.specs.Checks.{entered, entered_as, led, led_if, moved, node_at, or_fault, start, stepped, walked}

abbrev pub reached : PlainState → Option ℤ → Reached
reached s cost = record { state = s; cost = cost }

pub fault_ok : {A : Type 0} (r : Result A SpotFault) (x : A) → or_fault r ≡ Ok x → r ≡ Ok x
fault_ok (Ok y) x h = let q : y ≡ x = cc in rw q refl
fault_ok (Err met) x h = absurd (cc)

-- ---- a state that is entered

pub record Enters (m : Model) (s : PlainState) (cost : Option ℤ) (here : Reached) : Type 0 where
  pub same : reached s cost ≡ here
  pub inner : Inner m s

entered_look : (m : Model) (s : PlainState) (cost : Option ℤ) (here : Reached) (look : Look) → looked_at m false s cost ≡ Ok look → entered_as s cost look ≡ Ok here → Enters m s cost here
entered_look m s cost here looks.NotAllowed e h = absurd (cc)
entered_look m s cost here (looks.Base base) e h = absurd (cc)
entered_look m s cost here (looks.Open floor) e h = record { same = cc; inner = ((looked_open m false s cost floor).0 e).0 }

pub entered_inner : (m : Model) (s : PlainState) (cost : Option ℤ) (here : Reached) → entered m s cost ≡ Ok here → Enters m s cost here
entered_inner m s cost here h =
    let p = bind_ok (or_fault (looked_at m false s cost)) (entered_as s cost) here h in
    entered_look m s cost here p.0 (fault_ok (looked_at m false s cost) p.0 p.1) p.2

pub inner_entered : (m : Model) (s : PlainState) (cost : Option ℤ) → Inner m s → entered m s cost ≡ Ok (reached s cost)
inner_entered m s cost inner = rw ((looked_open m false s cost None).1 (inner, refl)) refl

-- ---- a step

-- the step leads there, with the joined cost, to an inner state
pub record Led (m : Model) (here : Reached) (g : ℕ) (there : Reached) : Type 0 where
  pub weight : Option ℤ
  pub step : Step m here.state g weight there.state
  pub cost : there.cost ≡ join m.join here.cost weight
  pub in_range : IfSome there.cost InRange
  pub inner : Inner m there.state

-- the cost and the state that a transition leads to
pub moved_parts : (m : Model) (here : Reached) (g : ℕ) (t : Transition × List ℕ) (there : Reached) → moved m here g t ≡ Ok there → (cost_at m here.state here.cost g t ≡ Ok there.cost) × (next_at m here.state g t ≡ Ok there.state)
moved_parts m here g t there h =
    let p = bind_ok (cost_at m here.state here.cost g t) (λ cost. next_at m here.state g t >>= λ next. Ok (reached next cost)) there h in
    let q = bind_ok (next_at m here.state g t) (λ next. Ok (reached next p.0)) there p.2 in
    let same : reached q.0 p.0 ≡ there = cc in
    (p.1 ∙ ap (λ (x : Reached). Ok x.cost) same, q.1 ∙ ap (λ (x : Reached). Ok x.state) same)

module _ (m : Model) (here : Reached) (g : ℕ) (range : IfSome here.cost InRange) (inner : Inner m here.state) where
  led_parts : (t : Transition × List ℕ) (there : Reached) → Considered m here.state g → Enabled m here.state g → ground_of m g ≡ Some t → led m here g (Some t) ≡ Ok there → Led m here g there
  led_parts t there considered enabled is h =
      let p = bind_ok (or_fault (moved m here g t)) (λ next. entered m next.state next.cost) there h in
      let parts = moved_parts m here g t p.0 (fault_ok (moved m here g t) p.0 p.1) in
      let found = step_found m here.state here.cost g t p.0.cost p.0.state range (inner, considered, enabled) is parts.0 parts.1 in
      let enters = entered_inner m p.0.state p.0.cost there p.2 in
      subst (Led m here g) enters.same (record { weight = found.0; step = found.1; cost = found.2; in_range = found.3; inner = enters.inner })

  led_if_parts : (may : Bool) (there : Reached) → may_step_at m here.state g ≡ Ok may → led_if m here g may ≡ Ok there → Led m here g there
  led_if_parts false there e h = absurd (cc)
  led_if_parts true there e h =
      let may = (may_step_found m here.state g).0 e in
      led_parts may.1.0 there may.0 may.1 may.1.1 (sym (ap (led m here g) may.1.1) ∙ h)

  pub stepped_led : (there : Reached) → stepped m here g ≡ Ok there → Led m here g there
  stepped_led there h =
      let p = bind_ok (or_fault (may_step_at m here.state g)) (led_if m here g) there h in
      led_if_parts p.0 there (fault_ok (may_step_at m here.state g) p.0 p.1) p.2

  -- each step of the model to an inner state with a joined cost in range is taken
  pub step_taken : (weight : Option ℤ) (next : PlainState) → Step m here.state g weight next → IfSome (join m.join here.cost weight) InRange → Inner m next → stepped m here g ≡ Ok (reached next (join m.join here.cost weight))
  step_taken weight next step fits inner' =
      let may = (may_step_found m here.state g).1 (step.considered, (step.move.0, step.move.1, step.move.2)) in
      let made = step_made m here.state here.cost g step.move.0 weight next range step step.move.1 fits in
      let enters = inner_entered m next (join m.join here.cost weight) inner' in
      rw may (rw step.move.1 (rw made.0 (rw made.1 enters)))

-- ---- a list

pub walk_leads : (m : Model) (here there : Reached) (gs : List ℕ) → IfSome here.cost InRange → Inner m here.state → walked m here gs ≡ Ok there → Leads m here.state here.cost gs there.state there.cost × Inner m there.state × IfSome there.cost InRange
walk_leads m here there [] range inner h =
    let same : here ≡ there = cc in
    ((ap (λ (x : Reached). x.state) same, ap (λ (x : Reached). x.cost) same), subst (λ (x : Reached). Inner m x.state) same inner, subst (λ (x : Reached). IfSome x.cost InRange) same range)
walk_leads m here there (g ∷ gs) range inner h =
    let p = bind_ok (stepped m here g) (λ next. walked m next gs) there h in
    let s = stepped_led m here g range inner p.0 p.1 in
    let rest = walk_leads m p.0 there gs s.in_range s.inner p.2 in (
      (p.0.state, s.weight, s.step, subst (λ (c : Option ℤ). IfSome c InRange) s.cost s.in_range, subst (λ (c : Option ℤ). Leads m p.0.state c gs there.state there.cost) s.cost rest.0),
      rest.1,
      rest.2,
    )

-- where a list leads to an inner state, it begins in one
pub leads_inner : (m : Model) (from to : PlainState) (cost total : Option ℤ) (gs : List ℕ) → Leads m from cost gs to total → Inner m to → Inner m from
leads_inner m from to cost total [] h inner = subst (Inner m) (sym h.0) inner
leads_inner m from to cost total (g ∷ gs) h inner = h.2.inner

pub leads_walk : (m : Model) (here : Reached) (gs : List ℕ) (s : PlainState) (cost : Option ℤ) → IfSome here.cost InRange → Leads m here.state here.cost gs s cost → Inner m s → walked m here gs ≡ Ok (reached s cost)
leads_walk m here [] s cost range h inner =
    let same : here ≡ reached s cost = ap (λ (x : PlainState). reached x here.cost) h.0 ∙ ap (λ (c : Option ℤ). reached s c) h.1 in
    ap (λ (x : Reached). Ok x) same
leads_walk m here (g ∷ gs) s cost range h inner =
    let mid = leads_inner m h.0 s (join m.join here.cost h.1) cost gs h.4 inner in
    let taken = step_taken m here g range h.2.inner h.1 h.0 h.2 h.3 mid in
    rw taken (leads_walk m (reached h.0 (join m.join here.cost h.1)) gs s cost h.3 h.4 inner)

-- ---- a node

pub record Found (m : Model) (cert : Cert) (l place : ℕ) (here : Reached) : Type 0 where
  pub path : Path m (list_of cert.layers l place) here.state here.cost
  pub inner : Inner m here.state
  pub in_range : IfSome here.cost InRange

pub node_found : (m : Model) (cert : Cert) (l place : ℕ) (here : Reached) → node_at m cert l place ≡ Ok here → Found m cert l place here
node_found m cert l place here h =
    let p = bind_ok (start m) (λ here. walked m here (list_of cert.layers l place)) here h in
    let e = entered_inner m m.target None p.0 p.1 in
    let walk = walk_leads m (reached m.target None) here (list_of cert.layers l place) tt e.inner (subst (λ (x : Reached). walked m x (list_of cert.layers l place) ≡ Ok here) (sym e.same) p.2) in
    record { path = walk.0; inner = walk.1; in_range = walk.2 }

pub found_node : (m : Model) (cert : Cert) (l place : ℕ) (s : PlainState) (cost : Option ℤ) → Path m (list_of cert.layers l place) s cost → Inner m s → node_at m cert l place ≡ Ok (reached s cost)
found_node m cert l place s cost path inner =
    let first = leads_inner m m.target s None cost (list_of cert.layers l place) path inner in
    rw (inner_entered m m.target None first) (leads_walk m (reached m.target None) (list_of cert.layers l place) s cost tt path inner)
