-- Items of lists by their places.
use Rattle.std.proofs.Common.{◌≡◌, ℕ, zero, suc, ◌+◌, ◌<◌, ◌≤◌, ◌⊎◌, inl, inr, List, [], ◌∷◌, length, slice_get, get_or, Some, refl, sym, ap, subst, ◌∙◌, add-one, arith}
use Rattle.std.proofs.lemmas.Option.{slice_get_within}

below : (i n : ℕ) → suc i < suc n → i < n
below i n h = omega (arith, h)

none_below : (i : ℕ) → i < 0 → ⊥
none_below i h = omega (arith, h)

-- an item that is read at a place within a list
pub item_at : {X : Type 0} (xs : List X) (i : ℕ) (x : X) → i < length xs → x ≡ get_or xs i x → slice_get xs i ≡ Some x
item_at [] i x lt e = absurd (none_below i lt)
item_at (y ∷ xs) zero x lt e = ap Some (sym e)
item_at (y ∷ xs) (suc i) x lt e = item_at xs i x (below i (length xs) lt) e

-- a fact of each item below a place, where the place is the list's end
pub all_below : {X : Type 0} (P : X → Type 0) (xs : List X) (i : ℕ) → length xs ≤ i → ((k : ℕ) (x : X) → k < i → slice_get xs k ≡ Some x → P x) → (k : ℕ) (x : X) → slice_get xs k ≡ Some x → P x
all_below P xs i past f k x e = f k x (less (slice_get_within xs k x e) past) e
  where
    less : {k n i : ℕ} → k < n → n ≤ i → k < i
    less {k} {n} {i} h g = omega (arith, h, g)

less_or_same : (k i : ℕ) → k < suc i → (k < i) ⊎ (k ≡ i)
less_or_same zero zero h = inr refl
less_or_same zero (suc i) h = inl (omega arith)
less_or_same (suc k) zero h = absurd (none_below k (below k 0 h))
less_or_same (suc k) (suc i) h = elim (less_or_same k i (below k (suc i) h)) [ inl g ↦ inl (omega (arith, g)) | inr g ↦ inr (ap suc g) ]

-- a fact of each item below a place, and of the item there
pub one_further : {X : Type 0} (P : X → Type 0) (xs : List X) (j : ℕ) (x : X) → slice_get xs j ≡ Some x → P x → ((k : ℕ) (y : X) → k < j → slice_get xs k ≡ Some y → P y) → (k : ℕ) (y : X) → k < j + 1 → slice_get xs k ≡ Some y → P y
one_further {X} P xs j x here p f k y lt e = elim (less_or_same k j (subst (λ (n : ℕ). k < n) (add-one j) lt)) [
  | inl less ↦ f k y less e
  | inr same ↦ subst P (same_item x y (sym here ∙ subst (λ (n : ℕ). slice_get xs n ≡ Some y) same e)) p
]
  where
    same_item : (a b : X) → Some a ≡ Some b → a ≡ b
    same_item a b e = cc
