-- What a model keeps of the transition that a number names, and of the values of its parameters.
use Rattle.std.proofs.Common.{◌≡◌, ℕ, true, List, length, slice_get, Option, Some, None, option_and_then, refl, ap, subst}
use Rattle.std.specs.Prelude.{option_map}
use Rattle.std.specs.List.{list_all}
use Rattle.std.proofs.lemmas.Bool.{and_parts}
use Rattle.dp_model.specs.Limits.{has_most, is_small_transition}
use Rattle.dp_model.specs.StepTexts.{ground_of}
use Rattle.dp_model.specs.Typing.{are_arguments, is_ground, is_transition}
use Rattle.dp_model.specs.declared.parts.Ground.{Ground}
use Rattle.dp_model.specs.declared.parts.Transition.{Transition}
use Rattle.dp_model.specs.declared.whole.Model.{Model}
use Rattle.dp_eval.specs.Fits.{are_given}
use Rattle.dp_eval.proofs.Ascending.{all_at}
use Rattle.dp_eval.proofs.ReadFits.{arguments_fit}

-- the transition stands in the model, and a ground transition has these values
record Found (m : Model) (g : ℕ) (t : Transition × List ℕ) : Type 0 where
  pub ground : Ground
  pub there : slice_get m.dp_ground g ≡ Some ground
  pub transition : slice_get m.transitions ground.transition ≡ Some t.0
  pub args : ground.args ≡ t.1

found_among : (m : Model) (g : ℕ) (x : Ground) (t : Transition × List ℕ) (o : Option Transition) → slice_get m.dp_ground g ≡ Some x → slice_get m.transitions x.transition ≡ o → option_map (λ (t : Transition). (t, x.args)) o ≡ Some t → Found m g t
found_among m g x t None here at e = absurd (cc)
found_among m g x t (Some y) here at e =
    let same : y ≡ t.0 = ap (λ (o : Option (Transition × List ℕ)). elim o [ Some p ↦ p.0 | None ↦ y ]) e in
    let args : x.args ≡ t.1 = ap (λ (o : Option (Transition × List ℕ)). elim o [ Some p ↦ p.1 | None ↦ x.args ]) e in
    record { ground = x; there = here; transition = subst (λ (z : Transition). slice_get m.transitions x.transition ≡ Some z) same at; args = args }

found_named : (m : Model) (g : ℕ) (t : Transition × List ℕ) (o : Option Ground) → slice_get m.dp_ground g ≡ o → option_and_then (λ (x : Ground). option_map (λ (t : Transition). (t, x.args)) (slice_get m.transitions x.transition)) o ≡ Some t → Found m g t
found_named m g t None here e = absurd (cc)
found_named m g t (Some x) here e = found_among m g x t (slice_get m.transitions x.transition) here refl e

-- the transition is small and well typed, and has a value in range for each of its parameters
pub record IsStepOf (m : Model) (t : Transition × List ℕ) : Type 0 where
  pub small : is_small_transition t.0 ≡ true
  pub typed : is_transition m.objects m.variables m.tables t.0 ≡ true
  pub count : length t.1 ≡ length t.0.params
  pub given : are_given t.1 ≡ true

small_transitions : (m : Model) → list_all is_small_transition m.transitions ≡ true
small_transitions m =
    let a = (and_parts (has_most 65536 m.transitions) _ m.few_rules).1 in
    (and_parts (list_all is_small_transition m.transitions) _ a).0

typed_transitions : (m : Model) → list_all (is_transition m.objects m.variables m.tables) m.transitions ≡ true
typed_transitions m = (and_parts (list_all (is_transition m.objects m.variables m.tables) m.transitions) _ m.typed).0

pub step_of : (m : Model) (g : ℕ) (t : Transition × List ℕ) → ground_of m g ≡ Some t → IsStepOf m t
step_of m g t e =
    let f = found_named m g t (slice_get m.dp_ground g) refl e in
    let grounded = all_at (is_ground m.objects m.variables m.transitions) m.dp_ground g f.ground m.grounded f.there in
    let given : are_arguments m.objects m.variables t.0.params f.ground.args ≡ true = rw f.transition at grounded in
    let fit = arguments_fit m t.0.params t.1 (rw f.args at given) in
    record {
      small = all_at is_small_transition m.transitions f.ground.transition t.0 (small_transitions m) f.transition;
      typed = all_at (is_transition m.objects m.variables m.tables) m.transitions f.ground.transition t.0 (typed_transitions m) f.transition;
      count = fit.0;
      given = fit.1;
    }
