-- Places in lists, and what holds of each element.
use Rattle.std.proofs.Common.{◌≡◌, ℕ, ◌+◌, ◌<◌, inl, inr, zero, suc, List, [], ◌∷◌, ◌++◌, length, map, slice_get, slice_set, drop, Some, None, refl, sym, ap, subst, ◌∙◌, arith, add-one}
use Rattle.std.proofs.lemmas.List.{append_assoc, length_push}
use Rattle.pass_ledger.proofs.Lists.{get_left}
use Rattle.shard_mail.proofs.Letters.{last_or}

-- one place has one element
pub same_at : {A : Type 0} (xs : List A) (i : ℕ) (x y : A) → slice_get xs i ≡ Some x → slice_get xs i ≡ Some y → x ≡ y
same_at xs i x y a b = cc

pub none_there : {A : Type 0} (i : ℕ) (x : A) → slice_get [] i ≡ Some x → ⊥
none_there i x h = let no : None ≡ Some x = h in cc

-- what stands in a list that was mapped
pub at_mapped : {A B : Type 0} (f : A → B) (xs : List A) (i : ℕ) (y : B) → slice_get (map f xs) i ≡ Some y → (x : A) × (slice_get xs i ≡ Some x) × (f x ≡ y)
at_mapped f [] i y h = absurd (none_there i y h)
at_mapped f (x ∷ xs) zero y h = (x, refl, (let both : Some (f x) ≡ Some y = h in cc))
at_mapped f (x ∷ xs) (suc i) y h = at_mapped f xs i y h

pub map_at : {A B : Type 0} (f : A → B) (xs : List A) (i : ℕ) (x : A) → slice_get xs i ≡ Some x → slice_get (map f xs) i ≡ Some (f x)
map_at f [] i x h = absurd (none_there i x h)
map_at f (y ∷ xs) zero x h = (let both : Some y ≡ Some x = h in cc)
map_at f (y ∷ xs) (suc i) x h = map_at f xs i x h

-- the first elements of one list stand at their places in the other
abbrev pub Begins : {A : Type 0} → List A → List A → Type 0
Begins {A} xs ys = (i : ℕ) (x : A) → slice_get xs i ≡ Some x → slice_get ys i ≡ Some x

-- ---- a list with one more element

pub each_more : {A : Type 0} (P : ℕ → A → Type 0) (xs more : List A) (x : A) → more ≡ xs ++ x ∷ [] → ((i : ℕ) (y : A) → slice_get xs i ≡ Some y → P i y) → P (length xs) x → (i : ℕ) (y : A) → slice_get more i ≡ Some y → P i y
each_more P xs more x e old new i y h =
    elim (last_or xs x y i (ap (λ zs. slice_get zs i) (sym e) ∙ h)) [
      | inl a ↦ old i y a
      | inr b ↦ subst (P i) b.1 (subst (λ (k : ℕ). P k x) (sym b.0) new)
    ]

pub long_more : {A : Type 0} (xs more : List A) (x : A) (n : ℕ) → more ≡ xs ++ x ∷ [] → length xs ≡ n → length more ≡ n + 1
long_more xs more x n e l = let a = ap length e in let b = length_push xs x in omega (arith, a, b, l)

pub at_left : {A : Type 0} (xs more : List A) (x : A) → more ≡ xs ++ x ∷ [] → Begins xs more
at_left xs more x e i y h = ap (λ zs. slice_get zs i) e ∙ get_left xs (x ∷ []) i y h

seam : {A : Type 0} (xs : List A) (x : A) → slice_get (xs ++ x ∷ []) (length xs) ≡ Some x
seam [] x = refl
seam (y ∷ xs) x = seam xs x

pub at_last : {A : Type 0} (xs more : List A) (x : A) → more ≡ xs ++ x ∷ [] → slice_get more (length xs) ≡ Some x
at_last xs more x e = ap (λ zs. slice_get zs (length xs)) e ∙ seam xs x

-- the first elements of a list and those that are left, after one more
pub rest_more : {A : Type 0} (done rest after all : List A) (x : A) → done ++ rest ≡ all → rest ≡ x ∷ after → (done ++ x ∷ []) ++ after ≡ all
rest_more done rest after all x whole next = append_assoc done (x ∷ []) after ∙ (ap (λ xs. done ++ xs) (sym next) ∙ whole)

-- the first elements without the last one
pub begins_less : {A : Type 0} (xs less ys : List A) (x : A) → xs ≡ less ++ x ∷ [] → Begins xs ys → Begins less ys
begins_less xs less ys x e h i y at = h i y (at_left less xs x e i y at)

pub begins_last : {A : Type 0} (xs less ys : List A) (x : A) → xs ≡ less ++ x ∷ [] → Begins xs ys → slice_get ys (length less) ≡ Some x
begins_last xs less ys x e h = h (length less) x (at_last less xs x e)

-- ---- a list in which one element was written

pub set_same : {A : Type 0} (xs : List A) (i : ℕ) (y : A) → i < length xs → slice_get (slice_set xs i y) i ≡ Some y
set_same [] i y lt = absurd (omega arith)
set_same (x ∷ xs) zero y lt = refl
set_same (x ∷ xs) (suc i) y lt = set_same xs i y (omega arith)

pub set_off : {A : Type 0} (xs : List A) (i k : ℕ) (y : A) → (k ≡ i → ⊥) → slice_get (slice_set xs i y) k ≡ slice_get xs k
set_off [] i k y ne = refl
set_off (x ∷ xs) zero zero y ne = absurd (ne refl)
set_off (x ∷ xs) zero (suc k) y ne = refl
set_off (x ∷ xs) (suc i) zero y ne = refl
set_off (x ∷ xs) (suc i) (suc k) y ne = set_off xs i k y (λ e. ne (ap suc e))

-- ---- a list without its first elements

pub at_drop : {A : Type 0} (xs : List A) (n : ℕ) (x : A) (rest : List A) → drop n xs ≡ x ∷ rest → slice_get xs n ≡ Some x
at_drop [] zero x rest e = absurd (let no : [] ≡ x ∷ rest = e in cc)
at_drop [] (suc n) x rest e = absurd (let no : [] ≡ x ∷ rest = e in cc)
at_drop (y ∷ xs) zero x rest e = let both : y ∷ xs ≡ x ∷ rest = e in cc
at_drop (y ∷ xs) (suc n) x rest e = at_drop xs n x rest e

pub drop_next : {A : Type 0} (xs : List A) (n : ℕ) (x : A) (rest : List A) → drop n xs ≡ x ∷ rest → drop (n + 1) xs ≡ rest
drop_next xs n x rest e = ap (λ (k : ℕ). drop k xs) (add-one n) ∙ next xs n x rest e
  where
    next : {B : Type 0} (ys : List B) (m : ℕ) (y : B) (zs : List B) → drop m ys ≡ y ∷ zs → drop (suc m) ys ≡ zs
    next [] zero y zs h = absurd (let no : [] ≡ y ∷ zs = h in cc)
    next [] (suc m) y zs h = absurd (let no : [] ≡ y ∷ zs = h in cc)
    next (w ∷ ys) zero y zs h = let both : w ∷ ys ≡ y ∷ zs = h in cc
    next (w ∷ ys) (suc m) y zs h = next ys m y zs h
