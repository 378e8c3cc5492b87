-- Places in lists.
use Rattle.std.proofs.Common.{◌≡◌, ℕ, ◌<◌, zero, suc, List, [], ◌∷◌, map, length, slice_get, Some, None, refl, sym, ap, subst, arith}
use Rattle.dp_claims.specs.Enough.{Has}

pub some_same : {A : Type 0} (x y : A) → Some x ≡ Some y → x ≡ y
some_same x y e = cc

pub no_some : {A : Type 0} (x : A) → None ≡ Some x → ⊥
no_some x e = cc

pub has_none : {A : Type 0} (x : A) → Has [] x → ⊥
has_none x h = no_some x h.1

pub has_one : {A : Type 0} (y x : A) → Has (y ∷ []) x → y ≡ x
has_one y x h = at h.0 h.1
  where
    at : (k : ℕ) → slice_get (y ∷ []) k ≡ Some x → y ≡ x
    at zero e = some_same y x e
    at (suc k) e = absurd (no_some x e)

pub get_within : {A : Type 0} (xs : List A) (k : ℕ) → k < length xs → (x : A) × (slice_get xs k ≡ Some x)
get_within [] k lt = absurd (omega arith)
get_within (x ∷ xs) zero lt = (x, refl)
get_within (x ∷ xs) (suc k) lt = get_within xs k (omega (arith, lt))

pub within_get : {A : Type 0} (xs : List A) (k : ℕ) (x : A) → slice_get xs k ≡ Some x → k < length xs
within_get [] k x e = absurd (no_some x e)
within_get (y ∷ xs) zero x e = omega arith
within_get (y ∷ xs) (suc k) x e = let h = within_get xs k x e in omega (arith, h)

-- lists of one length have the same places
pub get_other : {A B : Type 0} (xs : List A) (ys : List B) → length ys ≡ length xs → (k : ℕ) (x : A) → slice_get xs k ≡ Some x → (y : B) × (slice_get ys k ≡ Some y)
get_other xs ys e k x at = get_within ys k (subst (λ (n : ℕ). k < n) (sym e) (within_get xs k x at))

pub get_map : {A B : Type 0} (f : A → B) (xs : List A) (k : ℕ) (x : A) → slice_get xs k ≡ Some x → slice_get (map f xs) k ≡ Some (f x)
get_map f [] k x e = absurd (no_some x e)
get_map f (y ∷ xs) zero x e = let same : y ≡ x = some_same y x e in ap (λ z. Some (f z)) same
get_map f (y ∷ xs) (suc k) x e = get_map f xs k x e
