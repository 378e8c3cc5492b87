-- Values of variables that are set one after another: what is at least as good stays so, and what is within the ends too.
use Rattle.std.proofs.Common.{◌≡◌, ℕ, zero, suc, ◌⊎◌, inl, inr, Bool, true, false, List, [], ◌∷◌, slice_get, slice_set, Option, Some, None, Result, Ok, ℤ, refl, sym, ap, subst, ◌∙◌}
use Rattle.std.specs.Prelude.{◌≤ℤ◌}
use Rattle.dp_base.specs.Results.{◌>>=◌, in_turn}
use Rattle.dp_model.specs.Evaluation.{number_held}
use Rattle.dp_model.specs.declared.answers.FaultKind.{FaultKind}
use Rattle.dp_model.specs.declared.parts.Effect.{Effect}
use Rattle.dp_model.specs.declared.parts.PlainState.{PlainState}
use Rattle.dp_model.specs.declared.parts.PlainValue.{PlainValue}
use Rattle.dp_model.specs.declared.parts.PlainValue.TheVariants as values
use Rattle.dp_model.specs.declared.parts.Preference.{Preference}
use Rattle.dp_model.specs.declared.parts.Preference.TheVariants.{Without, Less, Greater}
use Rattle.dp_model.specs.declared.parts.Variable.{Variable}
use Rattle.dp_model.specs.declared.whole.Model.{Model}
use Rattle.dp_steps.specs.States.{effect_value, with_changes}
use Rattle.dp_claims.specs.Dominance.{AtLeast, DominatesIn, IsAtMost}
use Rattle.kept_model.specs.Parts.{variable_if, variables_with}
use Rattle.honest_preferences.specs.Effects.{AnswersEffect, AnswersEffects, AtLeastAt, IsWithin}
use Rattle.honest_preferences.specs.Leaving.{is_kept}
use Rattle.honest_preferences.specs.Signs.{IsOnSide, IsPair}
use Rattle.honest_preferences.proofs.Agreeing.{no_greater}
use Rattle.honest_preferences.proofs.Binding.{bound, ok_same}

-- ---- values that are at least as good

at_most_itself : (x : PlainValue) → IsAtMost x x
at_most_itself (values.Number n) = no_greater n
at_most_itself (values.Members set) = refl

least_itself : (p : Preference) (x : PlainValue) → AtLeast p x x
least_itself Without x = refl
least_itself Less x = at_most_itself x
least_itself Greater x = at_most_itself x

pub at_itself : (vs : List Variable) (v : ℕ) (x : PlainValue) → AtLeastAt vs v x x
at_itself [] v x = refl
at_itself (w ∷ vs) zero x = least_itself w.preference x
at_itself (w ∷ vs) (suc v) x = at_itself vs v x

-- each state dominates itself
pub dominates_itself : (vs : List Variable) (xs : List PlainValue) → DominatesIn vs xs xs
dominates_itself [] xs = refl
dominates_itself (v ∷ vs) [] = refl
dominates_itself (v ∷ vs) (x ∷ xs) = (least_itself v.preference x, dominates_itself vs xs)

pub some_one : (a b : Variable) → Some a ≡ Some b → a ≡ b
some_one a b e = cc

less_here : (p : Preference) (a b : ℤ) → p ≡ Less → a ≤ℤ b → AtLeast p (values.Number a) (values.Number b)
less_here Less a b e h = h
less_here Without a b e h = absurd cc
less_here Greater a b e h = absurd cc

greater_here : (p : Preference) (a b : ℤ) → p ≡ Greater → b ≤ℤ a → AtLeast p (values.Number a) (values.Number b)
greater_here Greater a b e h = h
greater_here Without a b e h = absurd cc
greater_here Less a b e h = absurd cc

less_kept : (k : Bool) (w : Variable) (a b : ℤ) → k ≡ true → w.preference ≡ Less → a ≤ℤ b → AtLeast (variable_if k w).preference (values.Number a) (values.Number b)
less_kept true w a b is e h = less_here w.preference a b e h
less_kept false w a b is e h = absurd cc

pub greater_kept : (k : Bool) (w : Variable) (a b : ℤ) → k ≡ true → w.preference ≡ Greater → b ≤ℤ a → AtLeast (variable_if k w).preference (values.Number a) (values.Number b)
greater_kept true w a b is e h = greater_here w.preference a b e h
greater_kept false w a b is e h = absurd cc

-- less of a kept resource of which less is preferred
pub at_less : (kept : List Bool) (vs : List Variable) (v : ℕ) (x : Variable) (a b : ℤ) → slice_get vs v ≡ Some x → is_kept kept v ≡ true → x.preference ≡ Less → a ≤ℤ b → AtLeastAt (variables_with kept vs) v (values.Number a) (values.Number b)
at_less kept [] v x a b at keeps e h = let clash : None ≡ Some x = at in absurd cc
at_less [] (w ∷ vs) v x a b at keeps e h = let clash : false ≡ true = keeps in absurd cc
at_less (k ∷ kept) (w ∷ vs) zero x a b at keeps e h = less_kept k w a b keeps (ap (λ (y : Variable). y.preference) (some_one w x at) ∙ e) h
at_less (k ∷ kept) (w ∷ vs) (suc v) x a b at keeps e h = at_less kept vs v x a b at keeps e h

pub at_greater : (kept : List Bool) (vs : List Variable) (v : ℕ) (x : Variable) (a b : ℤ) → slice_get vs v ≡ Some x → is_kept kept v ≡ true → x.preference ≡ Greater → b ≤ℤ a → AtLeastAt (variables_with kept vs) v (values.Number a) (values.Number b)
at_greater kept [] v x a b at keeps e h = let clash : None ≡ Some x = at in absurd cc
at_greater [] (w ∷ vs) v x a b at keeps e h = let clash : false ≡ true = keeps in absurd cc
at_greater (k ∷ kept) (w ∷ vs) zero x a b at keeps e h = greater_kept k w a b keeps (ap (λ (y : Variable). y.preference) (some_one w x at) ∙ e) h
at_greater (k ∷ kept) (w ∷ vs) (suc v) x a b at keeps e h = at_greater kept vs v x a b at keeps e h

-- one variable is set
set_dominates : (vs : List Variable) (xs ys : List PlainValue) (v : ℕ) (x y : PlainValue) → DominatesIn vs xs ys → AtLeastAt vs v x y → DominatesIn vs (slice_set xs v x) (slice_set ys v y)
set_dominates [] xs ys v x y d h = ap (λ (zs : List PlainValue). slice_set zs v x) d ∙ ap (λ (z : PlainValue). slice_set ys v z) h
set_dominates (w ∷ vs) [] [] v x y d h = refl
set_dominates (w ∷ vs) [] (b ∷ ys) v x y d h = absurd cc
set_dominates (w ∷ vs) (a ∷ xs) [] v x y d h = absurd d
set_dominates (w ∷ vs) (a ∷ xs) (b ∷ ys) zero x y d h = (h, d.1)
set_dominates (w ∷ vs) (a ∷ xs) (b ∷ ys) (suc v) x y d h = (d.0, set_dominates vs xs ys v x y d.1 h)

-- ---- what a list of items is asked

pub first_of_each : {A : Type 0} (P : A → Type 0) (x : A) (xs : List A) → ((i : ℕ) (y : A) → slice_get (x ∷ xs) i ≡ Some y → P y) → P x
first_of_each P x xs h = h zero x refl

pub rest_of_each : {A : Type 0} (P : A → Type 0) (x : A) (xs : List A) → ((i : ℕ) (y : A) → slice_get (x ∷ xs) i ≡ Some y → P y) → (i : ℕ) (y : A) → slice_get xs i ≡ Some y → P y
rest_of_each P x xs h i y at = h (suc i) y at

-- ---- effects

module _ (m : Model) (kept : List Bool) (ends : List ℤ) where
  -- a change and those after it
  pub parts : (s : PlainState) (args : List ℕ) (e : Effect) (es : List Effect) (ys : List (ℕ × PlainValue)) → in_turn (effect_value m s args) (e ∷ es) ≡ Ok ys
      → (y : ℕ × PlainValue) × (rest : List (ℕ × PlainValue)) × (effect_value m s args e ≡ Ok y) × (in_turn (effect_value m s args) es ≡ Ok rest) × (y ∷ rest ≡ ys)
  parts s args e es ys h =
      let y = bound (effect_value m s args e) (λ y. in_turn (effect_value m s args) es >>= λ rest. Ok (y ∷ rest)) ys h in
      let rest = bound (in_turn (effect_value m s args) es) (λ rest. Ok (y.0 ∷ rest)) ys y.2 in
      (y.0, rest.0, y.1, rest.1, ok_same (y.0 ∷ rest.0) ys rest.2)

  made : (s : PlainState) (args : List ℕ) (e : Effect) (es : List Effect) (x : ℕ × PlainValue) (xs : List (ℕ × PlainValue)) → effect_value m s args e ≡ Ok x → in_turn (effect_value m s args) es ≡ Ok xs → in_turn (effect_value m s args) (e ∷ es) ≡ Ok (x ∷ xs)
  made s args e es x xs here after = ap (λ (r : Result (ℕ × PlainValue) FaultKind). r >>= λ y. in_turn (effect_value m s args) es >>= λ rest. Ok (y ∷ rest)) here ∙ ap (λ (r : Result (List (ℕ × PlainValue)) FaultKind). r >>= λ rest. Ok (x ∷ rest)) after

  -- the better state is led to a better one
  pub effects_answered : (s other : PlainState) → IsPair m kept ends s other → (args : List ℕ) (es : List Effect) → AnswersEffects m kept ends es
      → (held held' : List PlainValue) → DominatesIn (variables_with kept m.variables) held held' → (ys : List (ℕ × PlainValue)) → in_turn (effect_value m other args) es ≡ Ok ys
      → (xs : List (ℕ × PlainValue)) × (in_turn (effect_value m s args) es ≡ Ok xs) × DominatesIn (variables_with kept m.variables) (with_changes held xs) (with_changes held' ys)
  effects_answered s other p args [] each held held' d ys h = ([], refl, subst (λ (zs : List (ℕ × PlainValue)). DominatesIn (variables_with kept m.variables) held (with_changes held' zs)) (ok_same [] ys h) d)
  effects_answered s other p args (e ∷ es) each held held' d ys h =
      let there = parts other args e es ys h in
      let here = first_of_each (AnswersEffect m kept ends) e es each s other p args there.0 there.2 in
      let rest = effects_answered s other p args es (rest_of_each (AnswersEffect m kept ends) e es each) (slice_set held there.0.0 here.0) (slice_set held' there.0.0 there.0.1) (set_dominates (variables_with kept m.variables) held held' there.0.0 here.0 there.0.1 d here.2) there.1 there.3 in (
        (there.0.0, here.0) ∷ rest.0,
        made s args e es (there.0.0, here.0) rest.0 here.1 rest.1,
        subst (λ (zs : List (ℕ × PlainValue)). DominatesIn (variables_with kept m.variables) (with_changes held ((there.0.0, here.0) ∷ rest.0)) (with_changes held' zs)) there.4 rest.2,
      )

  -- ---- ends

  set_get : (xs : List PlainValue) (i : ℕ) (x : PlainValue) (k : ℕ) → (slice_get (slice_set xs i x) k ≡ slice_get xs k) ⊎ ((k ≡ i) × (slice_get (slice_set xs i x) k ≡ Some x))
  set_get [] i x k = inl refl
  set_get (y ∷ xs) zero x zero = inr (refl, refl)
  set_get (y ∷ xs) zero x (suc k) = inl refl
  set_get (y ∷ xs) (suc i) x zero = inl refl
  set_get (y ∷ xs) (suc i) x (suc k) = elim (set_get xs i x k) [ inl same ↦ inl same | inr new ↦ inr (ap suc new.0, new.1) ]

  abbrev pub AreWithin : List PlainValue → Type 0
  AreWithin held = (v : ℕ) (x : Variable) (end : ℤ) → slice_get m.variables v ≡ Some x → is_kept kept v ≡ true → slice_get ends v ≡ Some end → IsOnSide x.preference end (number_held (slice_get held v))

  set_within : (held : List PlainValue) (change : ℕ × PlainValue) → AreWithin held → IsWithin m kept ends change → AreWithin (slice_set held change.0 change.1)
  set_within held change within new v x end at keeps here =
      elim (set_get held change.0 change.1 v) [
        | inl same ↦ subst (λ (o : Option PlainValue). IsOnSide x.preference end (number_held o)) (sym same) (within v x end at keeps here)
        | inr set ↦
            subst (λ (o : Option PlainValue). IsOnSide x.preference end (number_held o)) (sym set.1)
            (new x end (sym (ap (slice_get m.variables) set.0) ∙ at) (sym (ap (is_kept kept) set.0) ∙ keeps) (sym (ap (slice_get ends) set.0) ∙ here))
      ]

  pub effects_within : (s : PlainState) (args : List ℕ) (es : List Effect) → ((i : ℕ) (e : Effect) → slice_get es i ≡ Some e → (change : ℕ × PlainValue) → effect_value m s args e ≡ Ok change → IsWithin m kept ends change)
      → (held : List PlainValue) → AreWithin held → (ys : List (ℕ × PlainValue)) → in_turn (effect_value m s args) es ≡ Ok ys → AreWithin (with_changes held ys)
  effects_within s args [] each held within ys h = subst (λ (zs : List (ℕ × PlainValue)). AreWithin (with_changes held zs)) (ok_same [] ys h) within
  effects_within s args (e ∷ es) each held within ys h =
      let here = parts s args e es ys h in
      subst (λ (zs : List (ℕ × PlainValue)). AreWithin (with_changes held zs)) here.4
      (effects_within s args es (λ i d at. each (suc i) d at) (slice_set held here.0.0 here.0.1) (set_within held here.0 within (each zero e refl here.0 here.2)) here.1 here.3)
