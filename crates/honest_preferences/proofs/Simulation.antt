-- Kept preferences that are a simulation hold: the better state answers each step, and is inner or base where the other one is.
use Rattle.std.proofs.Common.{◌≡◌, ℕ, Bool, true, false, ◌⊎◌, inl, inr, List, [], ◌∷◌, slice_get, fold, Option, Some, None, option_and_then, Result, Ok, IsTrue, ℤ, refl, sym, ap, subst, ◌∙◌, arith}
use Rattle.std.specs.Prelude.{option_map}
use Rattle.std.proofs.lemmas.Int.{ints, clamps, by_lt_z}
use Rattle.dp_model.specs.Costs.{IsBetter, better_of}
use Rattle.dp_model.specs.StepTexts.{ground_of}
use Rattle.dp_model.specs.Typing.{is_state}
use Rattle.dp_model.specs.declared.answers.FaultKind.{FaultKind}
use Rattle.dp_model.specs.declared.parts.Ground.{Ground}
use Rattle.dp_model.specs.declared.parts.Transition.{Transition}
use Rattle.dp_model.specs.declared.parts.PlainState.{PlainState}
use Rattle.dp_model.specs.declared.whole.Model.{Model}
use Rattle.dp_steps.specs.States.{Allowed, Base, Considered, Inner, Step, case_costs}
use Rattle.dp_claims.specs.Dominance.{DominatesIn}
use Rattle.dp_claims.specs.Honest.{IsNotBetter}
use Rattle.kept_model.specs.Honesty.{PreferencesHold}
use Rattle.kept_model.specs.Parts.{variables_with}
use Rattle.part_laws.specs.OneStep.{AnswersEnd, AnswersStep, Invariant, Simulates}
use Rattle.part_laws.proofs.Honesty.{preferences_by}
use Rattle.wide_values.proofs.Wide.{law_of_wide}
use Rattle.wide_steps.specs.Laws.{LawWideSteps}
use Rattle.wide_steps.proofs.Steps.{steps_law}
use Rattle.honest_preferences.specs.Signs.{HasEnds, IsPair}
use Rattle.honest_preferences.specs.Answering.{AllEase, AnswersIn, AreAnswered, AreNoWorse, IsSimulation, StaysIn}
use Rattle.honest_preferences.specs.Parts.{IsFollowed}

-- ---- costs

-- the better of two numbers that are no worse is no worse
better_keeps : (minimize : Bool) (a b x y : ℤ) → (IsBetter minimize b a → ⊥) → (IsBetter minimize y x → ⊥) → IsBetter minimize (better_of minimize b y) (better_of minimize a x) → ⊥
better_keeps true a b x y h k better = by_lt_z b a (λ lt. h lt) (λ le. by_lt_z y x (λ lt. k lt) (λ le'. absurd (omega (arith, ints, clamps, better, le, le'))))
better_keeps false a b x y h k better = by_lt_z a b (λ lt. h lt) (λ le. by_lt_z x y (λ lt. k lt) (λ le'. absurd (omega (arith, ints, clamps, better, le, le'))))

best_no_worse : (m : Model) (c d : ℤ) (cs ds : List ℤ) → IsNotBetter m d c → AreNoWorse m cs ds → IsNotBetter m (fold (better_of m.minimize) d ds) (fold (better_of m.minimize) c cs)
best_no_worse m c d [] [] h all = h
best_no_worse m c d [] (y ∷ ds) h all = absurd all
best_no_worse m c d (x ∷ cs) [] h all = absurd all
best_no_worse m c d (x ∷ cs) (y ∷ ds) h all = best_no_worse m (better_of m.minimize c x) (better_of m.minimize d y) cs ds (better_keeps m.minimize c d x y h all.0) all.1

none_left : (m : Model) (cs : List ℤ) → AreNoWorse m cs [] → cs ≡ []
none_left m [] all = refl
none_left m (c ∷ cs) all = absurd all

base_by : (m : Model) (s : PlainState) → Allowed m s → (cs : List ℤ) (first : ℤ) (others : List ℤ) (base : ℤ) → case_costs m s m.base_cases ≡ Ok cs → AreNoWorse m cs (first ∷ others) → base ≡ fold (better_of m.minimize) first others
    → (cost : ℤ) × Base m s cost × IsNotBetter m base cost
base_by m s allowed [] first others base told all e = absurd all
base_by m s allowed (c ∷ cs) first others base told all e =
    let cost = fold (better_of m.minimize) c cs in
    (cost, record { allowed = allowed; best = (c, cs, told, refl) }, subst (λ (z : ℤ). IsNotBetter m z cost) (sym e) (best_no_worse m c first cs others all.0 all.1))

-- costs that are none are not as many as some
none_for_some : (m : Model) (cs : List ℤ) (first : ℤ) (others : List ℤ) (told : Result (List ℤ) FaultKind) → told ≡ Ok [] → told ≡ Ok cs → AreNoWorse m cs (first ∷ others) → ⊥
none_for_some m [] first others told none some all = all
none_for_some m (c ∷ cs) first others told none some all = absurd (clash (sym none ∙ some))
  where
    clash : ◌≡◌ {A = Result (List ℤ) FaultKind} (Ok []) (Ok (c ∷ cs)) → ⊥
    clash e = cc

-- ---- ground transitions

one_of : (a b : Transition × List ℕ) (o : Option (Transition × List ℕ)) → o ≡ Some a → o ≡ Some b → a ≡ b
one_of a b None p q = absurd (cc)
one_of a b (Some x) p q = cc

made_of : (o : Option Transition) (args : List ℕ) (t : Transition × List ℕ) → option_map (λ (u : Transition). (u, args)) o ≡ Some t → o ≡ Some t.0
made_of None args t q = absurd (cc)
made_of (Some u) args t q = ap (λ (x : Transition × List ℕ). Some x.0) (one_of (u, args) t (Some (u, args)) refl q)

there_by : (m : Model) (t : Transition × List ℕ) (o : Option Ground) → option_and_then (λ (x : Ground). option_map (λ (u : Transition). (u, x.args)) (slice_get m.transitions x.transition)) o ≡ Some t → (i : ℕ) × (slice_get m.transitions i ≡ Some t.0)
there_by m t None q = absurd (cc)
there_by m t (Some x) q = (x.transition, made_of (slice_get m.transitions x.transition) x.args t q)

-- a ground transition is made of a transition of the model
transition_there : (m : Model) (g : ℕ) (t : Transition × List ℕ) → ground_of m g ≡ Some t → (i : ℕ) × (slice_get m.transitions i ≡ Some t.0)
transition_there m g t at = there_by m t (slice_get m.dp_ground g) at

-- ---- steps

module _ (law : LawWideSteps) (m : Model) (kept : List Bool) (ends : List ℤ) (is : IsSimulation m kept ends) where
  abbrev Held : PlainState → Type 0
  Held s = IsTrue (is_state m.objects m.variables s) × HasEnds m kept ends s

  abbrev AsGood : PlainState → PlainState → Type 0
  AsGood s other = DominatesIn (variables_with kept m.variables) s.values other.values

  held_next : (s : PlainState) (g : ℕ) (weight : Option ℤ) (next : PlainState) → Held s → Step m s g weight next → Held next
  held_next s g weight next h step =
      let t = step.move.0 in
      let i = transition_there m g t step.move.1 in
      (law.state m s g weight next step h.0, is.stays i.0 t.0 i.1 s h.0 h.1 t.1 next step.move.4)

  pair_of : (s other : PlainState) → Held s → Held other → AsGood s other → IsPair m kept ends s other
  pair_of s other h h' good = record { state = h.0; other_state = h'.0; within = h.1; other_within = h'.1; better = good }

  -- forced transitions are enabled in both states or in neither
  considered : (s other : PlainState) → IsPair m kept ends s other → (g : ℕ) → Considered m other g → Considered m s g
  considered s other p g before f u forced at when =
      let i = transition_there m f u at in
      let same : forced.0 ≡ u = one_of forced.0 u (ground_of m f) forced.1 at in
      is.forced i.0 u.0 i.1 (subst (λ (x : Transition × List ℕ). x.0.forced ≡ true) same forced.2) s other p u.1 ∙ before f u forced at when

  inner_better : (s other : PlainState) → IsPair m kept ends s other → Inner m other → Inner m s
  inner_better s other p inner =
      let costs = is.cases s other p [] inner.open_cases in
      record { allowed = is.allowed s other p [] inner.allowed; open_cases = costs.1 ∙ ap Ok (none_left m costs.0 costs.2) }

  base_better : (s other : PlainState) → IsPair m kept ends s other → (base : ℤ) → Base m other base → (cost : ℤ) × Base m s cost × IsNotBetter m base cost
  base_better s other p base b =
      let best = b.best in
      let costs = is.cases s other p (best.0 ∷ best.1) best.2 in
      base_by m s (is.allowed s other p [] b.allowed) costs.0 best.0 best.1 base costs.1 costs.2 best.3

  -- an inner state is not better than a base state
  inner_not_base : (s other : PlainState) → IsPair m kept ends s other → (base : ℤ) → Inner m s → Base m other base → ⊥
  inner_not_base s other p base inner b =
      let best = b.best in
      let costs = is.cases s other p (best.0 ∷ best.1) best.2 in
      none_for_some m costs.0 best.0 best.1 (case_costs m s m.base_cases) inner.open_cases costs.1 costs.2

  answered : (s other : PlainState) → IsPair m kept ends s other → (g : ℕ) (weight : Option ℤ) (next : PlainState) (step : Step m other g weight next) → AnswersIn m kept step.move.0.0 s step.move.0.1 weight next ⊎ StaysIn m kept s weight next
  answered s other p g weight next step =
      let t = step.move.0 in
      let i = transition_there m g t step.move.1 in
      is.answered i.0 t.0 i.1 s other p t.1 weight next step.move.2 step.move.3 step.move.4

  step_of : (s other : PlainState) → IsPair m kept ends s other → Inner m s → (g : ℕ) (weight : Option ℤ) (next : PlainState) (step : Step m other g weight next) (a : AnswersIn m kept step.move.0.0 s step.move.0.1 weight next) → Step m s g a.weight a.next
  step_of s other p inner g weight next step a =
      record { inner = inner; considered = considered s other p g step.considered; move = (step.move.0, step.move.1, a.enabled, a.weighs, a.leads) }

  next_pair : (s other : PlainState) → Held s → Held other → AsGood s other → Inner m s → (g : ℕ) (weight : Option ℤ) (next : PlainState) (step : Step m other g weight next) (a : AnswersIn m kept step.move.0.0 s step.move.0.1 weight next) → IsPair m kept ends a.next next
  next_pair s other h h' good inner g weight next step a =
      pair_of a.next next (held_next s g a.weight a.next h (step_of s other (pair_of s other h h' good) inner g weight next step a)) (held_next other g weight next h' step) a.better

  ends_answered : (s other : PlainState) → Held s → Held other → Inner m s → AsGood s other → (g : ℕ) (weight : Option ℤ) (next : PlainState) (base : ℤ) → Step m other g weight next → Base m next base → AnswersEnd m s weight base
  ends_answered s other h h' inner good g weight next base step ended =
      let p = pair_of s other h h' good in
      elim (answered s other p g weight next step) [
        | inl a ↦
            let b = base_better a.next next (next_pair s other h h' good inner g weight next step a) base ended in
            (g, a.weight, a.next, b.0, step_of s other p inner g weight next step a, b.1, a.lighter b.0 base b.2)
        | inr a ↦ absurd (inner_not_base s next (pair_of s next h (held_next other g weight next h' step) a.0) base inner ended)
      ]

  goes_answered : (s other : PlainState) → Held s → Held other → Inner m s → AsGood s other → (g : ℕ) (weight : Option ℤ) (next : PlainState) → Step m other g weight next → Inner m next → AnswersStep m AsGood s weight next
  goes_answered s other h h' inner good g weight next step inner' =
      let p = pair_of s other h h' good in
      elim (answered s other p g weight next step) [
        | inl a ↦ inl (g, a.weight, a.next, step_of s other p inner g weight next step a, inner_better a.next next (next_pair s other h h' good inner g weight next step a) inner', a.better, a.lighter)
        | inr a ↦ inr a
      ]

  holds : PreferencesHold m (variables_with kept m.variables)
  holds =
      let inv : Invariant m Held = record { first = (m.held, is.first); kept = λ s g weight next h step inner. held_next s g weight next h step } in
      let sim : Simulates m (variables_with kept m.variables) Held AsGood = record { dominating = λ s other h h' good. good; ends = ends_answered; goes = goes_answered } in
      preferences_by m (variables_with kept m.variables) Held AsGood inv sim

pub simulation_holds : (m : Model) (kept : List Bool) (ends : List ℤ) → IsSimulation m kept ends → PreferencesHold m (variables_with kept m.variables)
simulation_holds m kept ends is = holds (steps_law law_of_wide) m kept ends is

-- ---- what is asked of each part, put together

pub simulation_of : (m : Model) (kept : List Bool) (ends : List ℤ) → HasEnds m kept ends m.target → AllEase m kept ends m.constraints → AreAnswered m kept ends → ((i : ℕ) (t : Transition) → slice_get m.transitions i ≡ Some t → IsFollowed m kept ends t)
    → IsSimulation m kept ends
simulation_of m kept ends first allowed cases followed = record {
  first = first;
  stays = λ i t at. (followed i t at).stays;
  allowed = allowed;
  cases = cases;
  answered = λ i t at. (followed i t at).answers;
  forced = λ i t at forced. (followed i t at).alike forced;
}
