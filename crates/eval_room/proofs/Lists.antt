-- What serves all items of a list.
use Rattle.std.proofs.Common.{◌≡◌, ℕ, ◌+◌, ◌<◌, ◌≤◌, max, Bool, true, ◌&&◌, eqb, List, length, get_or, subst, inl, inr, arith}
use Rattle.std.specs.Prelude.{slice_get, Some}
use Rattle.std.proofs.lemmas.Bool.{cases_eq}
use Rattle.std.proofs.lemmas.Option.{slice_get-get_or}
use Rattle.dp_model.specs.Typing.{is_number_kind, is_set_kind, kind_at}
use Rattle.dp_model.specs.Evaluation.{kind_of, object_of_kind}
use Rattle.dp_model.specs.declared.parts.BaseCase.{BaseCase}
use Rattle.dp_model.specs.declared.parts.Effect.TheVariants as effects
use Rattle.dp_model.specs.declared.trees.Num.{Num}
use Rattle.dp_model.specs.declared.trees.SetEx.{SetEx}
use Rattle.dp_model.specs.declared.parts.Transition.{Transition}
use Rattle.dp_model.specs.declared.whole.Model.{Model}
use Rattle.eval_room.specs.Fits.{num_fits, set_fits, cond_fits, operand_fits}
use Rattle.eval_room.proofs.Wholes.{beside}
use Rattle.eval_room.specs.Needs.{Serves, AllServe, ServesTransition, ServesBaseCase, AllServeTransition, AllServeBaseCase, ServesModel, effect_fits, weight_fits}

pub serves_more : {test : ℕ → Bool} {a b : ℕ} → a ≤ b → Serves test a → Serves test b
serves_more h s = record { each = λ room l. s.each room (omega (arith, h, l)) }

pub list_more : {A : Type 0} {test : A → ℕ → Bool} {items : List A} {a b : ℕ} → a ≤ b → AllServe test items a → AllServe test items b
list_more h s = record { at = λ i x e. serves_more h (s.at i x e) }

pub transition_more : {m : Model} {t : Transition} {a b : ℕ} → a ≤ b → ServesTransition m t a → ServesTransition m t b
transition_more h s = record { preconditions = list_more h s.preconditions; effects = list_more h s.effects; weight = serves_more h s.weight }

pub base_case_more : {m : Model} {t : BaseCase} {a b : ℕ} → a ≤ b → ServesBaseCase m t a → ServesBaseCase m t b
base_case_more h s = record { conditions = list_more h s.conditions; cost = serves_more h s.cost }

pub transitions_more : {m : Model} {ts : List Transition} {a b : ℕ} → a ≤ b → AllServeTransition m ts a → AllServeTransition m ts b
transitions_more h s = record { at = λ i x e. transition_more h (s.at i x e) }

pub base_cases_more : {m : Model} {bs : List BaseCase} {a b : ℕ} → a ≤ b → AllServeBaseCase m bs a → AllServeBaseCase m bs b
base_cases_more h s = record { at = λ i x e. base_case_more h (s.at i x e) }

-- ---- effects

pub number_serves : (m : Model) (given v : ℕ) (e : Num) (n : ℕ) → is_number_kind (kind_at m.variables v) ≡ true → Serves (num_fits m e given) n → Serves (effect_fits m given (effects.Number v e)) n
number_serves m given v e n h q = beside (is_number_kind (kind_at m.variables v)) (num_fits m e given) n h q

pub members_serve : (m : Model) (given v : ℕ) (e : SetEx) (n : ℕ) → is_set_kind (kind_at m.variables v) ≡ true → eqb (object_of_kind (kind_of m v)) (set_fits m e).0 ≡ true → Serves (operand_fits m (set_fits m e) given) n → Serves (effect_fits m given (effects.Members v e)) n
members_serve m given v e n h o q =
    beside (is_set_kind (kind_at m.variables v)) (λ room. eqb (object_of_kind (kind_of m v)) (set_fits m e).0 && operand_fits m (set_fits m e) given room) n h
    (beside (eqb (object_of_kind (kind_of m v)) (set_fits m e).0) (operand_fits m (set_fits m e) given) n o q)

-- ---- the items before one are served

module _ {A : Type 0} (P : A → ℕ → Type 0) (grows : (x : A) (a b : ℕ) → a ≤ b → P x a → P x b) where
  pub before_more : (items : List A) (i : ℕ) (d x : A) (most need now : ℕ) → i < length items → x ≡ get_or items i d → now ≡ max need most → P x need → ((j : ℕ) (y : A) → j < i → slice_get items j ≡ Some y → P y most) → (j : ℕ) (y : A) → j < i + 1 → slice_get items j ≡ Some y → P y now
  before_more items i d x most need now h e q serves so j y l f = elim (cases_eq j i) [
    | inl g ↦ (let same : x ≡ y = (let there = slice_get-get_or items i d h in let here : slice_get items i ≡ Some y = subst (λ (k : ℕ). slice_get items k ≡ Some y) g f in cc) in subst (λ (z : A). P z now) same (grows x need now (omega (arith, q)) serves))
    | inr g ↦ grows y most now (omega (arith, q)) (so j y (omega (arith, g, l)) f)
  ]

-- ---- what serves the parts serves the whole

pub transition_serves : (m : Model) (t : Transition) (x y z v n : ℕ) → v ≡ max y z → n ≡ max x v → AllServe (λ c. cond_fits m c (length t.params)) t.preconditions x → AllServe (effect_fits m (length t.params)) t.effects y → Serves (weight_fits m (length t.params) t.weight) z → ServesTransition m t n
transition_serves m t x y z v n p q f g h =
    let a : x ≤ n = omega (arith, p, q) in
    let b : y ≤ n = omega (arith, p, q) in
    let c : z ≤ n = omega (arith, p, q) in
    record { preconditions = list_more a f; effects = list_more b g; weight = serves_more c h }

pub base_case_serves : (m : Model) (b : BaseCase) (x y n : ℕ) → n ≡ max x y → AllServe (λ c. cond_fits m c 0) b.conditions x → Serves (num_fits m b.cost 0) y → ServesBaseCase m b n
base_case_serves m b x y n p f g =
    let a : x ≤ n = omega (arith, p) in
    let c : y ≤ n = omega (arith, p) in
    record { conditions = list_more a f; cost = serves_more c g }

pub model_serves : (m : Model) (x y z w u v n : ℕ) → u ≡ max z w → v ≡ max y u → n ≡ max x v → AllServeTransition m m.transitions x → AllServe (λ c. cond_fits m c 0) m.constraints y → AllServeBaseCase m m.base_cases z → AllServe (λ n. num_fits m n 0) m.bounds w → ServesModel m n
model_serves m x y z w u v n p q r f g h k =
    let a : x ≤ n = omega (arith, p, q, r) in
    let b : y ≤ n = omega (arith, p, q, r) in
    let c : z ≤ n = omega (arith, p, q, r) in
    let d : w ≤ n = omega (arith, p, q, r) in
    record { transitions = transitions_more a f; constraints = list_more b g; base_cases = base_cases_more c h; bounds = list_more d k }
