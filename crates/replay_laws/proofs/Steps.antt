-- A step of a replay is a step of the model, and where the replay stops it has a cause in the model.
use Rattle.std.proofs.Common.{◌≡◌, ℕ, Bool, true, false, inl, inr, List, Option, Some, None, Result, Ok, Err, refl, sym, ap, subst, ◌∙◌}
use Rattle.std.specs.Prelude.{ℤ, IfSome, filter}
use Rattle.dp_base.specs.Results.{◌>>=◌}
use Rattle.dp_model.specs.Costs.{InRange, join, join_onto, ranged}
use Rattle.dp_model.specs.StepTexts.{ground_of}
use Rattle.dp_model.specs.declared.answers.FaultKind.{FaultKind}
use Rattle.dp_model.specs.declared.answers.Reason.TheVariants as reasons
use Rattle.dp_model.specs.declared.answers.Spot.{Spot}
use Rattle.dp_model.specs.declared.answers.Spot.TheVariants as spots
use Rattle.dp_model.specs.declared.parts.Transition.{Transition}
use Rattle.dp_model.specs.declared.parts.PlainState.{PlainState}
use Rattle.dp_model.specs.declared.whole.Model.{Model}
use Rattle.dp_steps.specs.Faults.{MeetsIn}
use Rattle.dp_steps.specs.States.{Allowed, Base, Considered, Enabled, Inner, Step}
use Rattle.spot_eval.specs.Answers.{at_spot}
use Rattle.spot_eval.specs.Looks.{allowed_at, best_case}
use Rattle.spot_eval.specs.Moves.{cost_at, first_enabled, forced_of, goes_before, next_at, number_enabled}
use Rattle.spot_eval.specs.declared.ends.SpotFault.{SpotFault}
use Rattle.replay_list.specs.Replays.{base_here, chosen, ended, led, led_if, only_if, or_fault, stepped, total_of, unless_base, unless_forced}
use Rattle.replay_list.specs.declared.replayed.Reached.{Reached}
use Rattle.replay_list.specs.declared.replayed.Stop.{Stop}
use Rattle.replay_list.specs.declared.replayed.Stop.TheVariants as stops
use Rattle.visit_laws.proofs.Spots.{fault_there}
use Rattle.visit_laws.proofs.Constraints.{allowed_found, forbidden_found, constraint_faults}
use Rattle.visit_laws.proofs.BaseCases.{is_base, is_inner, base_best, inner_best, best_met}
use Rattle.visit_laws.proofs.Costs.{ranged_value, value_ranged}
use Rattle.visit_laws.proofs.Transitions.{enabled_found, enabled_faults, before_found, before_none, before_faults}
use Rattle.visit_laws.proofs.Steps.{step_found, step_made, cost_faults, effect_faults}
use Rattle.replay_laws.specs.Replays.{Breaks}
use Rattle.replay_laws.proofs.Ends.{bind_ok, bind_err, fault_ok, fault_err, only_ok, only_err, base_ok, base_err, forced_ok, forced_err}

-- why a replay stops here, where this is the next step, if there is one
abbrev pub Cause : Model → Reached → Option ℕ → Stop → Type 0
Cause m here next (stops.Illegal reason) = Breaks m here.state next reason
Cause m here next (stops.Fault met) = MeetsIn m false here.cost here.state met.spot met.kind

caused : (m : Model) (here : Reached) (next : Option ℕ) (stop other : Stop) → stop ≡ other → Cause m here next other → Cause m here next stop
caused m here next stop other e h = subst (Cause m here next) (sym e) h

spot_ok : {A : Type 0} (spot : Spot) (r : Result A FaultKind) (x : A) → at_spot spot r ≡ Ok x → r ≡ Ok x
spot_ok spot (Ok y) x h = let q : y ≡ x = cc in rw q refl
spot_ok spot (Err kind) x h = absurd (cc)

yes_or_no : ◌≡◌ {A = Result Bool SpotFault} (Ok true) (Ok false) → ⊥
yes_or_no e = cc

some_same : {A : Type 0} (x y : A) → Some x ≡ Some y → x ≡ y
some_same x y e = cc

-- ---- a state

base_parts : (m : Model) (s : PlainState) (base : Option ℤ) → base_here m s ≡ Ok base → Allowed m s × (best_case m s 0 None m.base_cases ≡ Ok base)
base_parts m s base h =
    let p = bind_ok (or_fault (allowed_at m s)) (λ allowed. only_if allowed (stops.Illegal reasons.NotAllowed) (or_fault (best_case m s 0 None m.base_cases))) base h in
    let q = only_ok p.0 (stops.Illegal reasons.NotAllowed) (or_fault (best_case m s 0 None m.base_cases)) base p.2 in
    ((allowed_found m s).0 (fault_ok (allowed_at m s) true (p.1 ∙ ap (λ (b : Bool). Ok b) q.0)), fault_ok (best_case m s 0 None m.base_cases) base q.1)

base_made : (m : Model) (s : PlainState) (base : Option ℤ) → Allowed m s → best_case m s 0 None m.base_cases ≡ Ok base → base_here m s ≡ Ok base
base_made m s base allowed h = rw ((allowed_found m s).1 allowed, h) refl

base_stops : (m : Model) (here : Reached) (next : Option ℕ) (stop : Stop) → base_here m here.state ≡ Err stop → Cause m here next stop
base_stops m here next stop h =
    elim (bind_err (or_fault (allowed_at m here.state)) (λ allowed. only_if allowed (stops.Illegal reasons.NotAllowed) (or_fault (best_case m here.state 0 None m.base_cases))) stop h) [
      | inl e ↦ (let f = fault_err (allowed_at m here.state) stop e in caused m here next stop (stops.Fault f.0) f.2 (constraint_faults m false here.cost here.state f.0 f.1))
      | inr p ↦ elim (only_err p.0 (stops.Illegal reasons.NotAllowed) (or_fault (best_case m here.state 0 None m.base_cases)) stop p.2) [
        | inl e ↦ caused m here next stop (stops.Illegal reasons.NotAllowed) e.1 ((forbidden_found m here.state).0 (fault_ok (allowed_at m here.state) false (p.1 ∙ ap (λ (b : Bool). Ok b) e.0)))
        | inr e ↦ (let f = fault_err (best_case m here.state 0 None m.base_cases) stop e.1 in
            let allowed = (allowed_found m here.state).0 (fault_ok (allowed_at m here.state) true (p.1 ∙ ap (λ (b : Bool). Ok b) e.0)) in
            caused m here next stop (stops.Fault f.0) f.2 (best_met m false here.cost here.state f.0 allowed f.1))
      ]
    ]

-- ---- the end of a list

-- the total of a list that ends here
pub record IsTotal (m : Model) (here : Reached) (total : ℤ) : Type 0 where
  pub base : ℤ
  pub is_base : Base m here.state base
  pub is : total ≡ join_onto m.join here.cost base
  pub in_range : InRange total

total_parts : (m : Model) (here : Reached) (base : Option ℤ) (total : ℤ) → Allowed m here.state → best_case m here.state 0 None m.base_cases ≡ Ok base → total_of m here.cost base ≡ Ok total → IsTotal m here total
total_parts m here None total allowed b h = absurd (cc)
total_parts m here (Some base) total allowed b h =
    let r = ranged_value (join_onto m.join here.cost base) total (spot_ok spots.Total (ranged (join_onto m.join here.cost base)) total (fault_ok (at_spot spots.Total (ranged (join_onto m.join here.cost base))) total h)) in
    record { base = base; is_base = is_base m here.state base allowed b; is = r.1; in_range = subst InRange (sym r.1) r.0 }

pub ended_total : (m : Model) (here : Reached) (total : ℤ) → ended m here ≡ Ok total → IsTotal m here total
ended_total m here total h =
    let p = bind_ok (base_here m here.state) (total_of m here.cost) total h in
    let q = base_parts m here.state p.0 p.1 in
    total_parts m here p.0 total q.0 q.1 p.2

pub total_ended : (m : Model) (here : Reached) (total : ℤ) → IsTotal m here total → ended m here ≡ Ok total
total_ended m here total t =
    let base = base_made m here.state (Some t.base) t.is_base.allowed (base_best m here.state t.base t.is_base) in
    let joined : ranged (join_onto m.join here.cost t.base) ≡ Ok (join_onto m.join here.cost t.base) = value_ranged (join_onto m.join here.cost t.base) (subst InRange t.is t.in_range) in
    rw base (rw joined (ap (λ (x : ℤ). Ok x) (sym t.is)))

total_stops : (m : Model) (here : Reached) (base : Option ℤ) (stop : Stop) → Allowed m here.state → best_case m here.state 0 None m.base_cases ≡ Ok base → total_of m here.cost base ≡ Err stop → Cause m here None stop
total_stops m here None stop allowed b h = let e : stop ≡ stops.Illegal reasons.NotBase = cc in caused m here None stop (stops.Illegal reasons.NotBase) e (is_inner m here.state allowed b)
total_stops m here (Some base) stop allowed b h =
    let f = fault_err (at_spot spots.Total (ranged (join_onto m.join here.cost base))) stop h in
    let there = fault_there spots.Total (ranged (join_onto m.join here.cost base)) f.0 f.1 in
    let is = is_base m here.state base allowed b in
    caused m here None stop (stops.Fault f.0) f.2 (subst (λ (spot : Spot). MeetsIn m false here.cost here.state spot f.0.kind) (sym there.1) ((base, is), (base, is, there.0)))

pub ended_stops : (m : Model) (here : Reached) (stop : Stop) → ended m here ≡ Err stop → Cause m here None stop
ended_stops m here stop h =
    elim (bind_err (base_here m here.state) (total_of m here.cost) stop h) [
      | inl e ↦ base_stops m here None stop e
      | inr p ↦ (let q = base_parts m here.state p.0 p.1 in total_stops m here p.0 stop q.0 q.1 p.2)
    ]

-- ---- a step

-- the step leads there, with the joined cost
pub record Leads (m : Model) (here : Reached) (g : ℕ) (there : Reached) : Type 0 where
  pub weight : Option ℤ
  pub step : Step m here.state g weight there.state
  pub cost : there.cost ≡ join m.join here.cost weight
  pub in_range : IfSome there.cost InRange

module _ (m : Model) (here : Reached) (g : ℕ) (range : IfSome here.cost InRange) where
  abbrev Before : Result (Option ℕ) SpotFault
  Before = first_enabled m here.state (filter (goes_before m g) (forced_of m))

  abbrev go : Option ℤ → PlainState → Result Reached Stop
  go cost next = Ok (record { state = next; cost = cost })

  -- where a transition that may step leads

  led_parts : (t : Transition × List ℕ) (there : Reached) → Inner m here.state → Considered m here.state g → Enabled m here.state g → ground_of m g ≡ Some t → led m here g (Some t) ≡ Ok there → Leads m here g there
  led_parts t there inner considered enabled is h =
      let p = bind_ok (or_fault (cost_at m here.state here.cost g t)) (λ cost. or_fault (next_at m here.state g t) >>= go cost) there h in
      let q = bind_ok (or_fault (next_at m here.state g t)) (go p.0) there p.2 in
      let same : record { state = q.0; cost = p.0 } ≡ there = cc in
      let cost = fault_ok (cost_at m here.state here.cost g t) p.0 p.1 in
      let next = fault_ok (next_at m here.state g t) q.0 q.1 in
      let found = step_found m here.state here.cost g t p.0 q.0 range (inner, considered, enabled) is cost next in
      subst (Leads m here g) same (record { weight = found.0; step = found.1; cost = found.2; in_range = found.3 })

  led_stops : (t : Transition × List ℕ) (stop : Stop) → Inner m here.state → Considered m here.state g → Enabled m here.state g → ground_of m g ≡ Some t → led m here g (Some t) ≡ Err stop → Cause m here (Some g) stop
  led_stops t stop inner considered enabled is h =
      elim (bind_err (or_fault (cost_at m here.state here.cost g t)) (λ cost. or_fault (next_at m here.state g t) >>= go cost) stop h) [
        | inl e ↦ (let f = fault_err (cost_at m here.state here.cost g t) stop e in
            caused m here (Some g) stop (stops.Fault f.0) f.2 (cost_faults m false here.cost here.state g t f.0 (inner, considered, enabled) is f.1))
        | inr p ↦ elim (bind_err (or_fault (next_at m here.state g t)) (go p.0) stop p.2) [
          | inl e ↦ (let f = fault_err (next_at m here.state g t) stop e in
              let cost = fault_ok (cost_at m here.state here.cost g t) p.0 p.1 in
              caused m here (Some g) stop (stops.Fault f.0) f.2 (effect_faults m false here.cost here.state g t p.0 f.0 range (inner, considered, enabled) is cost f.1))
          | inr q ↦ (let clash : go p.0 q.0 ≡ Err stop = q.2 in absurd (cc))
        ]
      ]

  -- one that is considered

  led_if_parts : (there : Reached) → Inner m here.state → Considered m here.state g → led_if m here g ≡ Ok there → Leads m here g there
  led_if_parts there inner considered h =
      let p = bind_ok (or_fault (number_enabled m here.state g)) (λ enabled. only_if enabled (stops.Illegal reasons.NotEnabled) (led m here g (ground_of m g))) there h in
      let q = only_ok p.0 (stops.Illegal reasons.NotEnabled) (led m here g (ground_of m g)) there p.2 in
      let enabled = (enabled_found m here.state g).0 (fault_ok (number_enabled m here.state g) true (p.1 ∙ ap (λ (b : Bool). Ok b) q.0)) in
      led_parts enabled.0 there inner considered enabled enabled.1 (sym (ap (led m here g) enabled.1) ∙ q.1)

  led_if_stops : (stop : Stop) → Inner m here.state → Considered m here.state g → led_if m here g ≡ Err stop → Cause m here (Some g) stop
  led_if_stops stop inner considered h =
      elim (bind_err (or_fault (number_enabled m here.state g)) (λ enabled. only_if enabled (stops.Illegal reasons.NotEnabled) (led m here g (ground_of m g))) stop h) [
        | inl e ↦ (let f = fault_err (number_enabled m here.state g) stop e in caused m here (Some g) stop (stops.Fault f.0) f.2 (enabled_faults m false here.cost here.state g f.0 inner considered f.1))
        | inr p ↦ elim (only_err p.0 (stops.Illegal reasons.NotEnabled) (led m here g (ground_of m g)) stop p.2) [
          | inl e ↦ (let off = fault_ok (number_enabled m here.state g) false (p.1 ∙ ap (λ (b : Bool). Ok b) e.0) in
              caused m here (Some g) stop (stops.Illegal reasons.NotEnabled) e.1 (inner, considered, λ enabled. yes_or_no (sym ((enabled_found m here.state g).1 enabled) ∙ off)))
          | inr e ↦ (let enabled = (enabled_found m here.state g).0 (fault_ok (number_enabled m here.state g) true (p.1 ∙ ap (λ (b : Bool). Ok b) e.0)) in
              led_stops enabled.0 stop inner considered enabled enabled.1 (sym (ap (led m here g) enabled.1) ∙ e.1))
        ]
      ]

  -- one in an inner state

  chosen_parts : (there : Reached) → Inner m here.state → chosen m here g ≡ Ok there → Leads m here g there
  chosen_parts there inner h =
      let p = bind_ok (or_fault Before) (λ first. unless_forced first (led_if m here g)) there h in
      let q = forced_ok p.0 (led_if m here g) there p.2 in
      let considered = (before_none m here.state g).0 (fault_ok Before None (p.1 ∙ ap (λ (f : Option ℕ). Ok f) q.0)) in
      led_if_parts there inner considered q.1

  chosen_stops : (stop : Stop) → Inner m here.state → chosen m here g ≡ Err stop → Cause m here (Some g) stop
  chosen_stops stop inner h =
      elim (bind_err (or_fault Before) (λ first. unless_forced first (led_if m here g)) stop h) [
        | inl e ↦ (let f = fault_err Before stop e in caused m here (Some g) stop (stops.Fault f.0) f.2 (before_faults m false here.cost here.state g f.0 inner f.1))
        | inr p ↦ elim (forced_err p.0 (led_if m here g) stop p.2) [
          | inl e ↦ (let f = before_found m here.state g e.0 (fault_ok Before (Some e.0) (p.1 ∙ ap (λ (f : Option ℕ). Ok f) e.1)) in
              caused m here (Some g) stop (stops.Illegal reasons.Forced) e.2 (inner, (e.0, f.0, f.1, f.2, f.3)))
          | inr e ↦ led_if_stops stop inner ((before_none m here.state g).0 (fault_ok Before None (p.1 ∙ ap (λ (f : Option ℕ). Ok f) e.0))) e.1
        ]
      ]

  pub stepped_leads : (there : Reached) → stepped m here g ≡ Ok there → Leads m here g there
  stepped_leads there h =
      let p = bind_ok (base_here m here.state) (λ base. unless_base base (chosen m here g)) there h in
      let q = base_ok p.0 (chosen m here g) there p.2 in
      let parts = base_parts m here.state None (p.1 ∙ ap (λ (b : Option ℤ). Ok b) q.0) in
      chosen_parts there (is_inner m here.state parts.0 parts.1) q.1

  pub stepped_stops : (stop : Stop) → stepped m here g ≡ Err stop → Cause m here (Some g) stop
  stepped_stops stop h =
      elim (bind_err (base_here m here.state) (λ base. unless_base base (chosen m here g)) stop h) [
        | inl e ↦ base_stops m here (Some g) stop e
        | inr p ↦ elim (base_err p.0 (chosen m here g) stop p.2) [
          | inl e ↦ (let parts = base_parts m here.state (Some e.0) (p.1 ∙ ap (λ (b : Option ℤ). Ok b) e.1) in
              caused m here (Some g) stop (stops.Illegal reasons.AfterBase) e.2 (e.0, is_base m here.state e.0 parts.0 parts.1))
          | inr e ↦ (let parts = base_parts m here.state None (p.1 ∙ ap (λ (b : Option ℤ). Ok b) e.0) in chosen_stops stop (is_inner m here.state parts.0 parts.1) e.1)
        ]
      ]

  -- each step of the model with a joined cost in range is taken
  pub step_taken : (weight : Option ℤ) (next : PlainState) → Step m here.state g weight next → IfSome (join m.join here.cost weight) InRange → stepped m here g ≡ Ok (record { state = next; cost = join m.join here.cost weight })
  step_taken weight next step fits =
      let base = base_made m here.state None step.inner.allowed (inner_best m here.state step.inner) in
      let first = (before_none m here.state g).1 step.considered in
      let enabled = (enabled_found m here.state g).1 (step.move.0, step.move.1, step.move.2) in
      let made = step_made m here.state here.cost g step.move.0 weight next range step step.move.1 fits in
      rw base (rw first (rw enabled (rw step.move.1 (rw made.0 (rw made.1 refl)))))
