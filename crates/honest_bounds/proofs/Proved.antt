-- What is shown of each step of each mode proves a dual bound.
use Rattle.std.proofs.Common.{◌≡◌, ℕ, zero, suc, ◌<◌, Bool, true, false, ◌&&◌, ◌||◌, List, [], ◌∷◌, ◌++◌, inl, inr, length, slice_get, Option, Some, None, option_and_then, ℤ, refl, sym, subst, ◌∙◌}
use Rattle.std.specs.Prelude.{option_map}
use Rattle.std.specs.List.{list_any}
use Rattle.std.proofs.lemmas.Bool.{and_parts, and_from}
use Rattle.std.proofs.lemmas.Option.{slice_get_within}
use Rattle.dp_model.specs.Costs.{join_onto}
use Rattle.dp_model.specs.Typing.{is_state}
use Rattle.dp_model.specs.declared.trees.Num.{Num}
use Rattle.dp_model.specs.declared.parts.Ground.{Ground}
use Rattle.dp_model.specs.declared.parts.Transition.{Transition}
use Rattle.dp_model.specs.declared.parts.PlainState.{PlainState}
use Rattle.dp_model.specs.declared.whole.Model.{Model}
use Rattle.dp_steps.specs.States.{Base, Inner, Step}
use Rattle.dp_claims.specs.Honest.{IsNotBetter}
use Rattle.dp_claims.proofs.Plain.{not_better_self}
use Rattle.part_laws.specs.Laws.{IsProvedBound}
use Rattle.wide_values.specs.Wide.{wide_num}
use Rattle.wide_values.specs.Laws.{LawWide}
use Rattle.wide_steps.specs.Laws.{LawWideSteps}
use Rattle.honest_states.proofs.Lists.{get_last}
use Rattle.honest_states.specs.Modes.{in_mode, in_some}
use Rattle.honest_states.specs.declared.mode.Mode.{Mode}
use Rattle.honest_steps.specs.Moves.{StepsFrom}
use Rattle.honest_bounds.specs.Steps.{AreInvariant, IsKept}

-- some item of which a test holds
record Found {A : Type 0} (test : A → Bool) (xs : List A) : Type 0 where
  pub place : ℕ
  pub item : A
  pub there : slice_get xs place ≡ Some item
  pub holds : test item ≡ true

found_first : {A : Type 0} (test : A → Bool) (x : A) (xs : List A) (b : Bool) → test x ≡ b → (b || list_any test xs) ≡ true → (list_any test xs ≡ true → Found test xs) → Found test (x ∷ xs)
found_first test x xs true e h rest = record { place = zero; item = x; there = refl; holds = e }
found_first test x xs false e h rest =
    let r = rest h in
    record { place = suc r.place; item = r.item; there = r.there; holds = r.holds }

found : {A : Type 0} (test : A → Bool) (xs : List A) → list_any test xs ≡ true → Found test xs
found test [] h = absurd (cc)
found test (x ∷ xs) h = found_first test x xs (test x) refl h (found test xs)

-- a ground transition that is there has a number below their count
there_below : (m : Model) (g : ℕ) (t : Transition × List ℕ) (o : Option Ground) → slice_get m.dp_ground g ≡ o → option_and_then (λ (x : Ground). option_map (λ (t : Transition). (t, x.args)) (slice_get m.transitions x.transition)) o ≡ Some t → g < length m.dp_ground
there_below m g t None q h = absurd (cc)
there_below m g t (Some x) q h = slice_get_within m.dp_ground g x q

step_below : (m : Model) (s : PlainState) (g : ℕ) (weight : Option ℤ) (next : PlainState) → Step m s g weight next → g < length m.dp_ground
step_below m s g weight next step = there_below m g step.move.0 (slice_get m.dp_ground g) refl step.move.1

module _ (wide : LawWide) (law : LawWideSteps) (m : Model) (modes : List Mode) (e : Num) (invariant : AreInvariant m modes) (kept : (j : ℕ) (mode : Mode) (g : ℕ) → slice_get modes j ≡ Some mode → g < length m.dp_ground → IsKept m mode g e) where
  -- the mode that a state is in
  from : (s : PlainState) (g : ℕ) (weight : Option ℤ) (next : PlainState) → (is_state m.objects m.variables s && in_some modes s) ≡ true → Step m s g weight next → (x : Found (λ (mode : Mode). in_mode mode s) modes) × StepsFrom m x.item g s weight next
  from s g weight next h step =
      let parts = and_parts (is_state m.objects m.variables s) (in_some modes s) h in
      let x = found (λ (mode : Mode). in_mode mode s) modes parts.1 in
      (x, record { state = parts.0; inside = x.holds; step = step })

  keeps : (s : PlainState) (g : ℕ) (weight : Option ℤ) (next : PlainState) → (is_state m.objects m.variables s && in_some modes s) ≡ true → Step m s g weight next → Inner m next → (is_state m.objects m.variables next && in_some modes next) ≡ true
  keeps s g weight next h step inner =
      let f = from s g weight next h step in
      let state = law.state m s g weight next step f.1.state in
      and_from (is_state m.objects m.variables next) (in_some modes next) state (invariant.kept f.0.place f.0.item g f.0.there (step_below m s g weight next step) s weight next f.1 inner)

  ends : (s : PlainState) (g : ℕ) (weight : Option ℤ) (next : PlainState) (base : ℤ) → (is_state m.objects m.variables s && in_some modes s) ≡ true → Step m s g weight next → Base m next base → IsNotBetter m (join_onto m.join weight base) (wide_num m s e [])
  ends s g weight next base h step ended =
      let f = from s g weight next h step in
      let b = law.base_costs m next base ended in
      let all = kept f.0.place f.0.item g f.0.there (step_below m s g weight next step) in
      subst (λ (c : ℤ). IsNotBetter m (join_onto m.join weight c) (wide_num m s e [])) (sym b.cost_is)
      (all.ends b.place b.base_case b.there s weight next f.1 (law.base_allowed m next base ended) b.holds)

  goes : (s : PlainState) (g : ℕ) (weight : Option ℤ) (next : PlainState) → (is_state m.objects m.variables s && in_some modes s) ≡ true → Step m s g weight next → Inner m next → IsNotBetter m (join_onto m.join weight (wide_num m next e [])) (wide_num m s e [])
  goes s g weight next h step inner =
      let f = from s g weight next h step in
      (kept f.0.place f.0.item g f.0.there (step_below m s g weight next step)).goes s weight next f.1 inner

  pub bound_proved : IsProvedBound m e
  bound_proved = record {
    holds = λ s. is_state m.objects m.variables s && in_some modes s;
    worth = λ s. wide_num m s e [];
    invariant = record { first = and_from (is_state m.objects m.variables m.target) (in_some modes m.target) m.held invariant.first; kept = keeps };
    is_worth = record { ends = ends; goes = goes };
    below = λ s bound h inner value. subst (λ (z : ℤ). IsNotBetter m (wide_num m s e []) z) (sym (wide.num m s e [] bound value)) (not_better_self m.minimize (wide_num m s e []));
  }

-- one more bound is looked at
pub proved_more : (m : Model) (old new : List Bool) (b : Bool) (place : ℕ) → new ≡ old ++ b ∷ [] → length old ≡ place
    → ((i : ℕ) (e : Num) → slice_get old i ≡ Some true → slice_get m.bounds i ≡ Some e → IsProvedBound m e)
    → (b ≡ true → (e : Num) → slice_get m.bounds place ≡ Some e → IsProvedBound m e)
    → (i : ℕ) (e : Num) → slice_get new i ≡ Some true → slice_get m.bounds i ≡ Some e → IsProvedBound m e
proved_more m old new b place is long before now i e keeps at = elim (get_last old b i true (subst (λ (xs : List Bool). slice_get xs i ≡ Some true) is keeps)) [
  | inl h ↦ before i e h at
  | inr h ↦ now (sym h.1) e (subst (λ (k : ℕ). slice_get m.bounds k ≡ Some e) (h.0 ∙ long) at)
]
