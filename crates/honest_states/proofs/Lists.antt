-- Items of lists by their places, and lists that are made item by item from others.
use Rattle.std.proofs.Common.{◌≡◌, ℕ, zero, suc, ◌<◌, ◌≤◌, ◌⊎◌, inl, inr, List, [], ◌∷◌, ◌++◌, length, slice_get, get_or, Option, Some, None, Result, Ok, Err, IfOk, IfSome, OnOk, ◌+◌, add-one, refl, sym, ap, ◌∙◌, subst, arith}
use Rattle.std.proofs.lemmas.Option.{slice_get_within}

-- an item of a list with one more: one of the list, or the last
pub get_last : {X : Type 0} (xs : List X) (x : X) (k : ℕ) (a : X) → slice_get (xs ++ x ∷ []) k ≡ Some a → (slice_get xs k ≡ Some a) ⊎ ((k ≡ length xs) × (a ≡ x))
get_last [] x zero a e = inr (refl, cc)
get_last [] x (suc k) a e = absurd (cc)
get_last (y ∷ xs) x zero a e = inl e
get_last (y ∷ xs) x (suc k) a e = elim (get_last xs x k a e) [ inl h ↦ inl h | inr h ↦ inr (ap suc h.0, h.1) ]

pub get_front : {X : Type 0} (xs ys : List X) (k : ℕ) (a : X) → slice_get xs k ≡ Some a → slice_get (xs ++ ys) k ≡ Some a
get_front [] ys k a e = absurd (cc)
get_front (x ∷ xs) ys zero a e = e
get_front (x ∷ xs) ys (suc k) a e = get_front xs ys k a e

pub get_here : {X : Type 0} (xs : List X) (y : X) (ys : List X) → slice_get (xs ++ y ∷ ys) (length xs) ≡ Some y
get_here [] y ys = refl
get_here (x ∷ xs) y ys = get_here xs y ys

pub length_last : {X : Type 0} (xs : List X) (x : X) → length (xs ++ x ∷ []) ≡ suc (length xs)
length_last [] x = refl
length_last (y ∷ xs) x = ap suc (length_last xs x)

below : (i n : ℕ) → suc i < suc n → i < n
below i n h = omega (arith, h)

none_below : (i : ℕ) → i < 0 → ⊥
none_below i h = omega (arith, h)

-- an item that is read at a place within a list
pub item_at : {X : Type 0} (xs : List X) (i : ℕ) (x : X) → i < length xs → x ≡ get_or xs i x → slice_get xs i ≡ Some x
item_at [] i x lt e = absurd (none_below i lt)
item_at (y ∷ xs) zero x lt e = ap Some (sym e)
item_at (y ∷ xs) (suc i) x lt e = item_at xs i x (below i (length xs) lt) e

-- each item of a list goes back to the item of another one at its place
abbrev pub Matched : {X Y : Type 0} → (ℕ → Y → X → Type 0) → List Y → List X → Type 0
Matched {X} {Y} P old new = (k : ℕ) (x : X) → slice_get new k ≡ Some x → (y : Y) × (slice_get old k ≡ Some y) × P k y x

pub matched_more : {X Y : Type 0} (P : ℕ → Y → X → Type 0) (old : List Y) (new : List X) (y : Y) (x : X) → Matched P old new → slice_get old (length new) ≡ Some y → P (length new) y x → Matched P old (new ++ x ∷ [])
matched_more {X} {Y} P old new y x m here p k a e = elim (get_last new x k a e) [
  | inl h ↦ m k a h
  | inr h ↦ (y, subst (λ (j : ℕ). slice_get old j ≡ Some y) (sym h.0) here, subst (λ (b : X). P k y b) (sym h.1) (subst (λ (j : ℕ). P j y x) (sym h.0) p))
]

-- a fact of each item below a place, where the place is the list's end
pub all_below : {X : Type 0} (P : ℕ → X → Type 0) (xs : List X) (i : ℕ) → length xs ≤ i → ((k : ℕ) (x : X) → k < i → slice_get xs k ≡ Some x → P k x) → (k : ℕ) (x : X) → slice_get xs k ≡ Some x → P k x
all_below P xs i past f k x e = f k x (less (slice_get_within xs k x e) past) e
  where
    less : {k n i : ℕ} → k < n → n ≤ i → k < i
    less {k} {n} {i} h g = omega (arith, h, g)

pub less_or_same : (k i : ℕ) → k < suc i → (k < i) ⊎ (k ≡ i)
less_or_same zero zero h = inr refl
less_or_same zero (suc i) h = inl (omega arith)
less_or_same (suc k) zero h = absurd (none_below k (below k 0 h))
less_or_same (suc k) (suc i) h = elim (less_or_same k i (below k (suc i) h)) [ inl g ↦ inl (omega (arith, g)) | inr g ↦ inr (ap suc g) ]

pub read_at : {X : Type 0} (xs : List X) (i : ℕ) (d : X) → i < length xs → slice_get xs i ≡ Some (get_or xs i d)
read_at [] i d lt = absurd (none_below i lt)
read_at (y ∷ xs) zero d lt = refl
read_at (y ∷ xs) (suc i) d lt = read_at xs i d (below i (length xs) lt)

pub longer : {X : Type 0} (old new : List X) (x : X) (j : ℕ) → new ≡ old ++ x ∷ [] → length old ≡ j → length new ≡ j + 1
longer old new x j e len = ap length e ∙ length_last old x ∙ ap suc len ∙ sym (add-one j)

-- one more item is made
pub pushed : {X Y : Type 0} (P : ℕ → Y → X → Type 0) (old : List Y) (new grown : List X) (y : Y) (x : X) (j : ℕ) → grown ≡ new ++ x ∷ [] → length new ≡ j → Matched P old new → slice_get old j ≡ Some y → P j y x → Matched P old grown
pushed {X} {Y} P old new grown y x j e len m here p =
    subst (Matched P old) (sym e) (matched_more P old new y x m (subst (λ (k : ℕ). slice_get old k ≡ Some y) (sym len) here) (subst (λ (k : ℕ). P k y x) (sym len) p))

-- ---- answers

pub ok_some : {A E : Type 0} (r : Result (Option A) E) (P Q : A → Type 0) → IfOk r (λ o. IfSome o P) → ((x : A) → P x → Q x) → IfOk r (λ o. IfSome o Q)
ok_some (Ok (Some x)) P Q h f = f x h
ok_some (Ok None) P Q h f = tt
ok_some (Err e) P Q h f = tt

pub if_ok : {A E : Type 0} (r : Result A E) (P Q : A → Type 0) → IfOk r P → ((x : A) → P x → Q x) → IfOk r Q
if_ok (Ok x) P Q h f = f x h
if_ok (Err e) P Q h f = tt

pub if_some : {A : Type 0} (o : Option A) (P Q : A → Type 0) → IfSome o P → ((x : A) → P x → Q x) → IfSome o Q
if_some (Some x) P Q h f = f x h
if_some None P Q h f = tt

pub on_ok : {A E : Type 0} (r : Result A E) (P Q : Type 0) → OnOk r P → (P → Q) → OnOk r Q
on_ok (Ok x) P Q h f = f h
on_ok (Err e) P Q h f = tt

pub less_one : (k i : ℕ) → k < i → k < i + 1
less_one k i h = omega (arith, h)

pub here_one : (i : ℕ) → i < i + 1
here_one i = omega arith

-- a fact of each item below a place, and of the item there
pub one_further : {X : Type 0} (P : ℕ → X → Type 0) (xs : List X) (j : ℕ) (x : X) → slice_get xs j ≡ Some x → P j x → ((k : ℕ) (y : X) → k < j → slice_get xs k ≡ Some y → P k y) → (k : ℕ) (y : X) → k < j + 1 → slice_get xs k ≡ Some y → P k y
one_further {X} P xs j x here p f k y lt e = elim (less_or_same k j (subst (λ (n : ℕ). k < n) (add-one j) lt)) [
  | inl less ↦ f k y less e
  | inr same ↦ subst (λ (n : ℕ). P n y) (sym same) (subst (P j) (same_item x y (sym here ∙ subst (λ (n : ℕ). slice_get xs n ≡ Some y) same e)) p)
]
  where
    same_item : (a b : X) → Some a ≡ Some b → a ≡ b
    same_item a b e = cc
