-- How long the lists of a model are at most.
use Rattle.std.proofs.Common.{◌≡◌, ℕ, ◌≤◌, ◌<◌, Bool, true, false, not, ◌&&◌, ◌||◌, eqb, List, [], ◌∷◌, length, map, slice_get, get_or, Option, Some, None, arith, refl, sym, ap, ◌∙◌, inl, inr}
use Rattle.std.specs.List.{IsDistinct, AllByRecursion, list_all, list_any}
use Rattle.std.proofs.lemmas.Bool.{and_parts, or_cases, leb-true, eqb-true, eqb-false, ne_eqb, not-true}
use Rattle.std.proofs.lemmas.List.{length-map}
use Rattle.std.proofs.lemmas.Map.Steps.{length-le_from_distinct_below}
use Rattle.std.proofs.lemmas.Option.{slice_get-get_or, slice_get_within}
use Rattle.dp_model.specs.Limits.{has_most, is_small_object, is_small_transition, is_small_base_case, is_name}
use Rattle.dp_model.specs.StepTexts.{ground_of}
use Rattle.dp_model.specs.Typing.{are_different, effect_variable, holds_set_of, is_effect, is_number_kind, is_set, kind_at, over_typed, is_cond}
use Rattle.dp_model.specs.declared.parts.BaseCase.{BaseCase}
use Rattle.dp_model.specs.declared.parts.Effect.{Effect}
use Rattle.dp_model.specs.declared.parts.Effect.TheVariants as effects
use Rattle.dp_model.specs.declared.parts.ObjectType.{ObjectType}
use Rattle.dp_model.specs.declared.parts.TableData.{TableData}
use Rattle.dp_model.specs.declared.parts.Transition.{Transition}
use Rattle.dp_model.specs.declared.parts.Variable.{Variable}
use Rattle.dp_model.specs.declared.whole.Model.{Model}
use Rattle.dp_eval.proofs.Ascending.{all_at}
use Rattle.spot_eval.proofs.Grounds.{step_of}

-- ---- the lists of a model

pub few_grounds : (m : Model) → length m.dp_ground ≤ 65536
few_grounds m =
    let a = (and_parts (has_most 65536 m.transitions) _ m.few_rules).1 in
    let b = (and_parts (list_all is_small_transition m.transitions) _ a).1 in
    leb-true (length m.dp_ground) 65536 (and_parts (has_most 65536 m.dp_ground) _ b).0

pub few_constraints : (m : Model) → length m.constraints ≤ 65536
few_constraints m =
    let a = (and_parts (has_most 65536 m.transitions) _ m.few_rules).1 in
    let b = (and_parts (list_all is_small_transition m.transitions) _ a).1 in
    let c = (and_parts (has_most 65536 m.dp_ground) _ b).1 in
    leb-true (length m.constraints) 65536 (and_parts (has_most 65536 m.constraints) _ c).0

few_last : (m : Model) → (has_most 65536 m.base_cases && (list_all is_small_base_case m.base_cases && has_most 1024 m.bounds)) ≡ true
few_last m =
    let a = (and_parts (has_most 65536 m.transitions) _ m.few_rules).1 in
    let b = (and_parts (list_all is_small_transition m.transitions) _ a).1 in
    let c = (and_parts (has_most 65536 m.dp_ground) _ b).1 in
    (and_parts (has_most 65536 m.constraints) _ c).1

pub few_cases : (m : Model) → length m.base_cases ≤ 65536
few_cases m = leb-true (length m.base_cases) 65536 (and_parts (has_most 65536 m.base_cases) _ (few_last m)).0

small_cases : (m : Model) → list_all is_small_base_case m.base_cases ≡ true
small_cases m = (and_parts (list_all is_small_base_case m.base_cases) _ (and_parts (has_most 65536 m.base_cases) _ (few_last m)).1).0

pub few_bounds : (m : Model) → length m.bounds ≤ 1024
few_bounds m = leb-true (length m.bounds) 1024 (and_parts (list_all is_small_base_case m.base_cases) _ (and_parts (has_most 65536 m.base_cases) _ (few_last m)).1).1

few_conditions : (m : Model) (i : ℕ) (b : BaseCase) → slice_get m.base_cases i ≡ Some b → length b.conditions ≤ 65536
few_conditions m i b e =
    let h = leb-true (length b.conditions) 256 (all_at is_small_base_case m.base_cases i b (small_cases m) e) in
    omega arith

-- the same of a case that was read at a place
pub few_conditions_at : (m : Model) (i : ℕ) (b : BaseCase) → i < length m.base_cases → b ≡ get_or m.base_cases i b → length b.conditions ≤ 65536
few_conditions_at m i b p e = few_conditions m i b (slice_get-get_or m.base_cases i b p ∙ ap Some (sym e))

few_variables : (m : Model) → length m.variables ≤ 1024
few_variables m =
    let a = (and_parts (has_most 1024 m.objects) _ m.few_names).1 in
    let b = (and_parts (list_all is_small_object m.objects) _ a).1 in
    leb-true (length m.variables) 1024 (and_parts (has_most 1024 m.variables) _ b).0

-- ---- the lists of a transition

few_of : (t : Transition) → is_small_transition t ≡ true → length t.preconditions ≤ 65536
few_of t h =
    let a = (and_parts (is_name t.name) _ h).1 in
    let b = leb-true (length t.preconditions) 256 (and_parts (has_most 4 t.params) _ a).1 in
    omega arith

pub few_preconditions : (m : Model) (g : ℕ) (t : Transition) (given : List ℕ) → ground_of m g ≡ Some (t, given) → length t.preconditions ≤ 65536
few_preconditions m g t given at = few_of t (step_of m g (t, given) at).small

or_parts : (x y : Bool) → (x || y) ≡ false → (x ≡ false) × (y ≡ false)
or_parts true y h = absurd (cc)
or_parts false y h = (refl, h)

-- no two effects set one variable
apart : (v : ℕ) (es : List Effect) → list_any (λ (other : Effect). eqb (effect_variable other) v) es ≡ false → AllByRecursion (λ y. eqb v y ≡ false) (map effect_variable es)
apart v [] h = tt
apart v (e ∷ es) h =
    let p = or_parts (eqb (effect_variable e) v) (list_any (λ (other : Effect). eqb (effect_variable other) v) es) h in
    (ne_eqb v (effect_variable e) (λ same. eqb-false (effect_variable e) v p.0 (sym same)), apart v es p.1)

distinct : (es : List Effect) → are_different es ≡ true → IsDistinct eqb (map effect_variable es)
unfolding IsDistinct
distinct [] h = tt
distinct (e ∷ es) h =
    let p = and_parts (not (list_any (λ (other : Effect). eqb (effect_variable other) (effect_variable e)) es)) (are_different es) h in
    (apart (effect_variable e) es (not-true _ p.0), distinct es p.1)

-- each effect sets a variable of the model
number_within : (vs : List Variable) (v : ℕ) (o : Option Variable) → slice_get vs v ≡ o → is_number_kind (kind_at vs v) ≡ true → v < length vs
number_within vs v None q h = let no = rw q at h in absurd (cc)
number_within vs v (Some x) q h = slice_get_within vs v x q

set_within : (vs : List Variable) (v object : ℕ) (o : Option Variable) → slice_get vs v ≡ o → holds_set_of object (kind_at vs v) ≡ true → v < length vs
set_within vs v object None q h = let no = rw q at h in absurd (cc)
set_within vs v object (Some x) q h = slice_get_within vs v x q

within : (os : List ObjectType) (vs : List Variable) (ts : List TableData) (given : ℕ) (e : Effect) → is_effect os vs ts given e ≡ true → effect_variable e < length vs
within os vs ts given (effects.Number v n) h = number_within vs v (slice_get vs v) refl (and_parts (is_number_kind (kind_at vs v)) _ h).0
within os vs ts given (effects.Members v set) h = set_within vs v (is_set os vs ts set).0 (slice_get vs v) refl (and_parts (holds_set_of (is_set os vs ts set).0 (kind_at vs v)) _ h).0

all_within : (os : List ObjectType) (vs : List Variable) (ts : List TableData) (given : ℕ) (es : List Effect) → list_all (is_effect os vs ts given) es ≡ true → (q : ℕ) → list_any (eqb q) (map effect_variable es) ≡ true → q < length vs
all_within os vs ts given [] h q at = absurd (cc)
all_within os vs ts given (e ∷ es) h q at =
    let p = and_parts (is_effect os vs ts given e) (list_all (is_effect os vs ts given) es) h in
    elim (or_cases (eqb q (effect_variable e)) (list_any (eqb q) (map effect_variable es)) at) [
      | inl same ↦ let is : q ≡ effect_variable e = eqb-true q (effect_variable e) same in rw is (within os vs ts given e p.0)
      | inr rest ↦ all_within os vs ts given es p.1 q rest
    ]

pub few_effects : (m : Model) (g : ℕ) (t : Transition) (given : List ℕ) → ground_of m g ≡ Some (t, given) → length t.effects ≤ 65536
few_effects m g t given at =
    let n = length t.params in
    let os = m.objects in
    let vs = m.variables in
    let ts = m.tables in
    let a = (and_parts (list_all (over_typed os vs) t.params) _ (step_of m g (t, given) at).typed).1 in
    let b = (and_parts (list_all (λ c. is_cond os vs ts c n) t.preconditions) _ a).1 in
    let typed = and_parts (list_all (is_effect os vs ts n) t.effects) _ b in
    let different = (and_parts (are_different t.effects) _ typed.1).0 in
    let few = length-le_from_distinct_below (map effect_variable t.effects) (length vs) (distinct t.effects different) (all_within os vs ts n t.effects typed.0) in
    let most = few_variables m in
    omega (arith, length-map t.effects effect_variable)
