-- What is kept where none is, and where one more is.
use Rattle.std.proofs.Common.{◌≡◌, ℕ, zero, suc, ◌⊎◌, inl, inr, Bool, true, false, List, [], ◌∷◌, get_or, slice_get, slice_set, Some, refl, sym, ap, subst, ◌∙◌}
use Rattle.dp_model.specs.declared.parts.Variable.{Variable}
use Rattle.dp_model.specs.declared.whole.Model.{Model}
use Rattle.kept_model.specs.Honesty.{PreferencesHold}
use Rattle.kept_model.specs.Parts.{variable_if, variables_with}
use Rattle.part_laws.proofs.Bare.{nothing_law}

-- ---- none

none_with : (choice : List Bool) (vs : List Variable) → ((i : ℕ) → slice_get choice i ≡ Some true → ⊥) → variables_with choice vs ≡ variables_with [] vs
none_with [] [] h = refl
none_with (c ∷ cs) [] h = refl
none_with [] (v ∷ vs) h = refl
none_with (true ∷ cs) (v ∷ vs) h = absurd (h zero refl)
none_with (false ∷ cs) (v ∷ vs) h = ap (λ (ws : List Variable). variable_if false v ∷ ws) (none_with cs vs (λ i e. h (suc i) e))

-- where no preference is kept, a state dominates none but itself
pub none_holds : (m : Model) (kept : List Bool) → ((i : ℕ) → slice_get kept i ≡ Some true → ⊥) → PreferencesHold m (variables_with kept m.variables)
none_holds m kept none = subst (λ (vs : List Variable). PreferencesHold m vs) (sym (none_with kept m.variables none)) (nothing_law m).preferences

-- ---- one more

set_kept : (xs : List Bool) (n i : ℕ) → slice_get (slice_set xs n true) i ≡ Some true → (slice_get xs i ≡ Some true) ⊎ (i ≡ n)
set_kept [] n i h = inl h
set_kept (x ∷ xs) zero zero h = inr refl
set_kept (x ∷ xs) zero (suc i) h = inl h
set_kept (x ∷ xs) (suc n) zero h = inl h
set_kept (x ∷ xs) (suc n) (suc i) h = elim (set_kept xs n i h) [ inl g ↦ inl g | inr g ↦ inr (ap suc g) ]

-- what is kept is what was kept, or the one that is added
pub added_one : (old same new : List Bool) (n : ℕ) → same ≡ old → new ≡ slice_set same n true → (i : ℕ) → slice_get new i ≡ Some true → (slice_get old i ≡ Some true) ⊎ (i ≡ n)
added_one old same new n e f i h = set_kept old n i (subst (λ (xs : List Bool). slice_get xs i ≡ Some true) (f ∙ ap (λ (xs : List Bool). slice_set xs n true) e) h)

item_true : (xs : List Bool) (n : ℕ) → get_or xs n false ≡ true → slice_get xs n ≡ Some true
item_true [] zero e = absurd (cc)
item_true [] (suc n) e = absurd (cc)
item_true (x ∷ xs) zero e = ap Some e
item_true (x ∷ xs) (suc n) e = item_true xs n e

-- where one of some is added, all that are kept are of these
pub added_of : (xs old : List Bool) (n : ℕ) → get_or xs n false ≡ true → ((i : ℕ) → slice_get old i ≡ Some true → slice_get xs i ≡ Some true) → (i : ℕ) → (slice_get old i ≡ Some true) ⊎ (i ≡ n) → slice_get xs i ≡ Some true
added_of xs old n e before i h = elim h [
  | inl g ↦ before i g
  | inr g ↦ subst (λ (k : ℕ). slice_get xs k ≡ Some true) (sym g) (item_true xs n e)
]
