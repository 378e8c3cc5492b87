-- What a model's room is for each of its expressions, and what is known of a ground transition.
use Rattle.std.proofs.Common.{◌≡◌, ℕ, ◌<◌, ◌≤◌, Bool, true, List, [], length, get_or, slice_get, Option, Some, None, option_and_then, refl, ap, sym, subst, ◌∙◌, arith}
use Rattle.std.specs.Prelude.{option_map}
use Rattle.std.specs.List.{list_all}
use Rattle.std.proofs.lemmas.Bool.{and_parts, leb-true}
use Rattle.std.proofs.lemmas.Option.{slice_get-get_or}
use Rattle.dp_model.specs.Limits.{has_most, is_name}
use Rattle.dp_model.specs.StepTexts.{ground_of}
use Rattle.dp_model.specs.Typing.{over_typed}
use Rattle.dp_model.specs.declared.parts.BaseCase.{BaseCase}
use Rattle.dp_model.specs.declared.parts.Ground.{Ground}
use Rattle.dp_model.specs.declared.parts.Transition.{Transition}
use Rattle.dp_model.specs.declared.trees.Num.{Num}
use Rattle.dp_model.specs.declared.whole.Model.{Model}
use Rattle.eval_room.specs.Fits.{num_fits, cond_fits}
use Rattle.eval_room.specs.Needs.{AllServe, ServesModel, ServesBaseCase, ServesTransition, effect_fits, weight_fits}
use Rattle.spot_eval.proofs.Grounds.{step_of}

-- ---- one of a list

pub served : {A : Type 0} (test : A → ℕ → Bool) (items listed : List A) (need i : ℕ) (x : A) → listed ≡ items → AllServe test items need → i < length listed → x ≡ get_or listed i x → test x need ≡ true
served test items listed need i x q h p e = (h.at i x (ap (λ xs. slice_get xs i) (sym q) ∙ slice_get-get_or listed i x p ∙ ap Some (sym e))).each need (omega arith)

-- ---- what is tested in a state, without parameters

pub constraints_room : (m : Model) (need : ℕ) (given : List ℕ) → ServesModel m need → given ≡ [] → AllServe (λ c. cond_fits m c (length given)) m.constraints need
constraints_room m need given s e = rw e s.constraints

pub case_room : (m : Model) (need i : ℕ) (b : BaseCase) (listed : List BaseCase) → listed ≡ m.base_cases → ServesModel m need → i < length listed → b ≡ get_or listed i b → ServesBaseCase m b need
case_room m need i b listed q s p e = s.base_cases.at i b (ap (λ xs. slice_get xs i) (sym q) ∙ slice_get-get_or listed i b p ∙ ap Some (sym e))

pub conditions_room : (m : Model) (need : ℕ) (b : BaseCase) (given : List ℕ) → ServesBaseCase m b need → given ≡ [] → AllServe (λ c. cond_fits m c (length given)) b.conditions need
conditions_room m need b given s e = rw e s.conditions

pub base_cost_room : (m : Model) (need : ℕ) (b : BaseCase) (given : List ℕ) → ServesBaseCase m b need → given ≡ [] → num_fits m b.cost (length given) need ≡ true
base_cost_room m need b given s e = rw e (s.cost.each need (omega arith))

pub bound_room : (m : Model) (need i : ℕ) (n : Num) (given : List ℕ) → ServesModel m need → given ≡ [] → i < length m.bounds → n ≡ get_or m.bounds i n → num_fits m n (length given) need ≡ true
bound_room m need i n given s e p at = rw e (served (λ n. num_fits m n 0) m.bounds m.bounds need i n refl s.bounds p at)

-- ---- ground transitions

found_at : (m : Model) (t : Transition) (given : List ℕ) (x : Ground) (o : Option Transition) → slice_get m.transitions x.transition ≡ o → option_map {U = Transition × List ℕ} (λ (t : Transition). (t, x.args)) o ≡ Some (t, given) → (i : ℕ) × (slice_get m.transitions i ≡ Some t)
found_at m t given x None at e = absurd (cc)
found_at m t given x (Some y) at e =
    let same : y ≡ t = ap (λ (o : Option (Transition × List ℕ)). elim o [ Some p ↦ p.0 | None ↦ y ]) e in
    (x.transition, subst (λ (z : Transition). slice_get m.transitions x.transition ≡ Some z) same at)

found_by : (m : Model) (t : Transition) (given : List ℕ) (o : Option Ground) → option_and_then {U = Transition × List ℕ} (λ (x : Ground). option_map {U = Transition × List ℕ} (λ (t : Transition). (t, x.args)) (slice_get m.transitions x.transition)) o ≡ Some (t, given) → (i : ℕ) × (slice_get m.transitions i ≡ Some t)
found_by m t given None e = absurd (cc)
found_by m t given (Some x) e = found_at m t given x (slice_get m.transitions x.transition) refl e

step_room : (m : Model) (need g : ℕ) (t : Transition) (given : List ℕ) → ServesModel m need → ground_of m g ≡ Some (t, given) → ServesTransition m t need
step_room m need g t given s e =
    let f = found_by m t given (slice_get m.dp_ground g) e in
    s.transitions.at f.0 t f.1

pub preconditions_room : (m : Model) (need g : ℕ) (t : Transition) (given : List ℕ) → ServesModel m need → ground_of m g ≡ Some (t, given) → AllServe (λ c. cond_fits m c (length given)) t.preconditions need
preconditions_room m need g t given s e = rw (step_of m g (t, given) e).count (step_room m need g t given s e).preconditions

pub effects_room : (m : Model) (need g : ℕ) (t : Transition) (given : List ℕ) → ServesModel m need → ground_of m g ≡ Some (t, given) → AllServe (effect_fits m (length given)) t.effects need
effects_room m need g t given s e = rw (step_of m g (t, given) e).count (step_room m need g t given s e).effects

pub weight_room : (m : Model) (need g : ℕ) (t : Transition) (given : List ℕ) (n : Num) → ServesModel m need → ground_of m g ≡ Some (t, given) → t.weight ≡ Some n → num_fits m n (length given) need ≡ true
weight_room m need g t given n s e q =
    let fits : weight_fits m (length t.params) t.weight need ≡ true = (step_room m need g t given s e).weight.each need (omega arith) in
    let here : num_fits m n (length t.params) need ≡ true = rw q at fits in
    rw (step_of m g (t, given) e).count here

pub params_typed : (m : Model) (g : ℕ) (t : Transition) (given : List ℕ) → ground_of m g ≡ Some (t, given) → list_all (over_typed m.objects m.variables) t.params ≡ true
params_typed m g t given e = (and_parts (list_all (over_typed m.objects m.variables) t.params) _ (step_of m g (t, given) e).typed).0

pub few_values : (m : Model) (g : ℕ) (t : Transition) (given : List ℕ) → ground_of m g ≡ Some (t, given) → length given ≤ 4
few_values m g t given e =
    let a = (and_parts (is_name t.name) _ (step_of m g (t, given) e).small).1 in
    let b = leb-true (length t.params) 4 (and_parts (has_most 4 t.params) _ a).0 in
    rw (step_of m g (t, given) e).count b
