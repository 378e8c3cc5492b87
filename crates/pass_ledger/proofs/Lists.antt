-- Places in lists.
use Rattle.std.proofs.Common.{◌≡◌, ℕ, ◌<◌, ◌≤◌, ◌⊎◌, inl, inr, zero, suc, List, [], ◌∷◌, ◌++◌, length, slice_get, Some, None, get_or, map, refl, sym, ap, subst, arith}
use Rattle.std.specs.List.{sum_by}
use Rattle.std.proofs.lemmas.List.Sums.{get_or-le-sum_by}
use Rattle.std.proofs.lemmas.Option.{slice_get_within, get_or_from_slice_get}
use Rattle.dp_claims.specs.Enough.{Has, Different}

pub get_left : {A : Type 0} (xs ys : List A) (k : ℕ) (x : A) → slice_get xs k ≡ Some x → slice_get (xs ++ ys) k ≡ Some x
get_left [] ys k x e = let no : None ≡ Some x = e in absurd (cc)
get_left (y ∷ xs) ys zero x e = e
get_left (y ∷ xs) ys (suc k) x e = get_left xs ys k x e

pub has_left : {A : Type 0} (xs ys : List A) (x : A) → Has xs x → Has (xs ++ ys) x
has_left xs ys x h = (h.0, get_left xs ys h.0 x h.1)

pub has_none : {A : Type 0} (x : A) → Has [] x → ⊥
has_none x h = let no : None ≡ Some x = h.1 in cc

-- an element of the list at a place: there is such a place
pub within : {A : Type 0} (xss : List (List A)) (l : ℕ) (x : A) → Has (get_or xss l []) x → l < length xss
within [] l x h = absurd (has_none x h)
within (xs ∷ xss) zero x h = omega arith
within (xs ∷ xss) (suc l) x h = let n = within xss l x h in omega arith

pub has_prefix : {A : Type 0} (xs rest ys : List A) (x : A) → xs ++ rest ≡ ys → Has xs x → Has ys x
has_prefix {A} xs rest ys x e h = subst (λ (l : List A). Has l x) e (has_left xs rest x h)

-- an element right behind a front
pub has_next : {A : Type 0} (xs : List A) (y : A) (ys : List A) → Has (xs ++ y ∷ ys) y
has_next [] y ys = (0, refl)
has_next (x ∷ xs) y ys = let h = has_next xs y ys in (suc h.0, h.1)

-- a sum has at least what one element adds
pub sum_has : {A : Type 0} (f : A → ℕ) (xs : List A) (x : A) → Has xs x → f x ≤ sum_by f xs
sum_has f xs x h =
    let lt = slice_get_within xs h.0 x h.1 in
    let same = ap f (get_or_from_slice_get xs h.0 x x h.1) in
    let le = get_or-le-sum_by f xs h.0 x lt in
    omega (arith, same)

pub has_head : {A : Type 0} (y : A) (xs : List A) (x : A) → Has (y ∷ xs) x → (y ≡ x) ⊎ Has xs x
has_head y xs x h = cases h.0 h.1
  where
    cases : (k : ℕ) → slice_get (y ∷ xs) k ≡ Some x → (y ≡ x) ⊎ Has xs x
    cases zero e = inl cc
    cases (suc k) e = inr (k, e)

pub has_cases : {A : Type 0} (xs ys : List A) (x : A) → Has (xs ++ ys) x → Has xs x ⊎ Has ys x
has_cases [] ys x h = inr h
has_cases (y ∷ xs) ys x h =
    elim (has_head y (xs ++ ys) x h) [
      | inl e ↦ inl (0, ap Some e)
      | inr t ↦ elim (has_cases xs ys x t) [ inl a ↦ inl (suc a.0, a.1) | inr b ↦ inr b ]
    ]

pub has_map : {A B : Type 0} (f : A → B) (xs : List A) (y : B) → Has (map f xs) y → (x : A) × Has xs x × (f x ≡ y)
has_map f [] y h = absurd (has_none y h)
has_map f (x ∷ xs) y h =
    elim (has_head (f x) (map f xs) y h) [ inl e ↦ (x, (0, refl), e) | inr b ↦ let r = has_map f xs y b in (r.0, (suc r.1.0, r.1.1), r.2) ]

pub has_last : {A : Type 0} (xs : List A) (x : A) → Has (xs ++ x ∷ []) x
has_last xs x = has_next xs x []

-- ---- different elements

pub different_append : {A : Type 0} (xs ys : List A) → Different xs → Different ys → ((x : A) → Has xs x → Has ys x → ⊥) → Different (xs ++ ys)
different_append [] ys a b apart = b
different_append (x ∷ xs) ys a b apart = (
  λ h. elim (has_cases xs ys x h) [ inl p ↦ a.0 p | inr q ↦ apart x (0, refl) q ],
  different_append xs ys a.1 b (λ y p q. apart y (suc p.0, p.1) q),
)

pub different_one : {A : Type 0} (x : A) → Different (x ∷ [])
different_one x = (λ h. has_none x h, tt)

pub has_right : {A : Type 0} (xs ys : List A) (x : A) → Has ys x → Has (xs ++ ys) x
has_right [] ys x h = h
has_right (z ∷ xs) ys x h = let r = has_right xs ys x h in (suc r.0, r.1)

-- an element between two fronts
pub has_middle : {A : Type 0} (before after : List A) (y x : A) → Has (before ++ after) x → Has (before ++ y ∷ after) x
has_middle before after y x h =
    elim (has_cases before after x h) [ inl a ↦ has_left before (y ∷ after) x a | inr b ↦ has_right before (y ∷ after) x (suc b.0, b.1) ]

pub has_rest : {A : Type 0} (before after : List A) (y x : A) → Has (before ++ y ∷ after) x → Has (before ++ after) x ⊎ (y ≡ x)
has_rest [] after y x h = elim (has_head y after x h) [ inl e ↦ inr e | inr b ↦ inl b ]
has_rest (z ∷ before) after y x h =
    elim (has_head z (before ++ y ∷ after) x h) [
      | inl e ↦ inl (0, ap Some e)
      | inr t ↦ elim (has_rest before after y x t) [ inl a ↦ inl (suc a.0, a.1) | inr b ↦ inr b ]
    ]

pub different_without : {A : Type 0} (before after : List A) (y : A) → Different (before ++ y ∷ after) → Different (before ++ after)
different_without [] after y d = d.1
different_without (z ∷ before) after y d = (λ h. d.0 (has_middle before after y z h), different_without before after y d.1)

-- an element of a list of different ones stands there once
pub different_not : {A : Type 0} (before after : List A) (y : A) → Different (before ++ y ∷ after) → Has (before ++ after) y → ⊥
different_not [] after y d h = d.0 h
different_not {A} (z ∷ before) after y d h =
    elim (has_head z (before ++ after) y h) [
      | inl e ↦ d.0 (subst (λ (x : A). Has (before ++ y ∷ after) x) (sym e) (has_next before y after))
      | inr t ↦ different_not before after y d.1 t
    ]
