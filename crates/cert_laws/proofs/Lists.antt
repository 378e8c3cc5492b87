-- Elements of lists, of ranges, and of what lists are joined of.
use Rattle.std.proofs.Common.{◌≡◌, ℕ, ◌+◌, ◌<◌, ◌≤◌, ◌⊎◌, inl, inr, zero, suc, Bool, true, false, ◌||◌, List, [], ◌∷◌, ◌++◌, length, slice_get, Some, None, refl, sym, ap, subst, ◌∙◌, arith}
use Rattle.std.specs.List.{flat_map, list_any, range_with_len}
use Rattle.dp_claims.specs.Enough.{Has}

pub some_same : {A : Type 0} (x y : A) → Some x ≡ Some y → x ≡ y
some_same x y e = cc

pub has_none : {A : Type 0} (x : A) → Has [] x → ⊥
has_none x h = let no : None ≡ Some x = h.1 in cc

pub has_head : {A : Type 0} (y : A) (xs : List A) (x : A) → Has (y ∷ xs) x → (y ≡ x) ⊎ Has xs x
has_head y xs x h = cases h.0 h.1
  where
    cases : (k : ℕ) → slice_get (y ∷ xs) k ≡ Some x → (y ≡ x) ⊎ Has xs x
    cases zero e = inl cc
    cases (suc k) e = inr (k, e)

pub has_one : {A : Type 0} (y x : A) → Has (y ∷ []) x → y ≡ x
has_one y x h = elim (has_head y [] x h) [ inl e ↦ e | inr b ↦ absurd (has_none x b) ]

pub has_cases : {A : Type 0} (xs ys : List A) (x : A) → Has (xs ++ ys) x → Has xs x ⊎ Has ys x
has_cases [] ys x h = inr h
has_cases (y ∷ xs) ys x h =
    elim (has_head y (xs ++ ys) x h) [
      | inl e ↦ inl (0, ap Some e)
      | inr t ↦ elim (has_cases xs ys x t) [ inl a ↦ inl (suc a.0, a.1) | inr b ↦ inr b ]
    ]

pub has_left : {A : Type 0} (xs ys : List A) (x : A) → Has xs x → Has (xs ++ ys) x
has_left [] ys x h = absurd (has_none x h)
has_left (y ∷ xs) ys x h = elim (has_head y xs x h) [ inl e ↦ (0, ap Some e) | inr t ↦ (let r = has_left xs ys x t in (suc r.0, r.1)) ]

pub has_right : {A : Type 0} (xs ys : List A) (x : A) → Has ys x → Has (xs ++ ys) x
has_right [] ys x h = h
has_right (z ∷ xs) ys x h = let r = has_right xs ys x h in (suc r.0, r.1)

-- ---- what is joined of lists

pub has_flat : {A B : Type 0} (f : A → List B) (xs : List A) (y : B) → Has (flat_map f xs) y → (x : A) × Has xs x × Has (f x) y
has_flat f [] y h = absurd (has_none y h)
has_flat f (x ∷ xs) y h =
    elim (has_cases (f x) (flat_map f xs) y h) [
      | inl here ↦ (x, (0, refl), here)
      | inr later ↦ (let r = has_flat f xs y later in (r.0, (suc r.1.0, r.1.1), r.2))
    ]

pub flat_has : {A B : Type 0} (f : A → List B) (xs : List A) (x : A) (y : B) → Has xs x → Has (f x) y → Has (flat_map f xs) y
flat_has f [] x y h k = absurd (has_none x h)
flat_has {A} {B} f (z ∷ xs) x y h k =
    elim (has_head z xs x h) [
      | inl e ↦ has_left (f z) (flat_map f xs) y (subst (λ (w : A). Has (f w) y) (sym e) k)
      | inr t ↦ has_right (f z) (flat_map f xs) y (flat_has f xs x y t k)
    ]

-- ---- ranges

pub has_range : (a n x : ℕ) → Has (range_with_len a n) x → (a ≤ x) × (x < a + n)
has_range a zero x h = absurd (has_none x h)
has_range a (suc n) x h =
    elim (has_head a (range_with_len (a + 1) n) x h) [
      | inl e ↦ here a n x e
      | inr t ↦ (let r = has_range (a + 1) n x t in later a n x r.0 r.1)
    ]
  where
    here : (a n x : ℕ) → a ≡ x → (a ≤ x) × (x < a + suc n)
    here a n x e = (omega arith, omega arith)

    later : (a n x : ℕ) → a + 1 ≤ x → x < a + 1 + n → (a ≤ x) × (x < a + suc n)
    later a n x h k = (omega arith, omega arith)

pub range_has : (a n x : ℕ) → a ≤ x → x < a + n → Has (range_with_len a n) x
range_has a zero x low high = absurd (omega arith)
range_has a (suc n) x low high =
    elim (first_or a x low) [
      | inl e ↦ (0, ap Some e)
      | inr less ↦ (let r = range_has (a + 1) n x less (inside a n x high) in (suc r.0, r.1))
    ]
  where
    first_or : (a x : ℕ) → a ≤ x → (a ≡ x) ⊎ (a + 1 ≤ x)
    first_or a x low = grind arith

    inside : (a n x : ℕ) → x < a + suc n → x < a + 1 + n
    inside a n x h = omega arith

-- ---- tests

pub true_or : (b : Bool) → (b ≡ true) ⊎ (b ≡ false)
true_or true = inl refl
true_or false = inr refl

pub any_has : {A : Type 0} (p : A → Bool) (xs : List A) → list_any p xs ≡ true → (x : A) × Has xs x × (p x ≡ true)
any_has p [] h = absurd (cc)
any_has p (x ∷ xs) h =
    elim (true_or (p x)) [
      | inl e ↦ (x, (0, refl), e)
      | inr e ↦ (let r = any_has p xs (sym (ap (λ (c : Bool). c || list_any p xs) e) ∙ h) in (r.0, (suc r.1.0, r.1.1), r.2))
    ]

pub has_any : {A : Type 0} (p : A → Bool) (xs : List A) (x : A) → Has xs x → p x ≡ true → list_any p xs ≡ true
has_any p [] x h e = absurd (has_none x h)
has_any {A} p (y ∷ xs) x h e =
    elim (has_head y xs x h) [
      | inl same ↦ rw (subst (λ (w : A). p w ≡ true) (sym same) e) refl
      | inr t ↦ any_later (p y) (list_any p xs) (has_any p xs x t e)
    ]
  where
    any_later : (a b : Bool) → b ≡ true → (a || b) ≡ true
    any_later true b e = refl
    any_later false b e = e

-- ---- places

pub get_within : {A : Type 0} (xs : List A) (k : ℕ) → k < length xs → (x : A) × (slice_get xs k ≡ Some x)
get_within [] k lt = absurd (omega arith)
get_within (x ∷ xs) zero lt = (x, refl)
get_within (x ∷ xs) (suc k) lt = get_within xs k (omega (arith, lt))

pub within_get : {A : Type 0} (xs : List A) (k : ℕ) (x : A) → slice_get xs k ≡ Some x → k < length xs
within_get [] k x e = let no : None ≡ Some x = e in absurd (cc)
within_get (y ∷ xs) zero x e = omega arith
within_get (y ∷ xs) (suc k) x e = let h = within_get xs k x e in omega (arith, h)
