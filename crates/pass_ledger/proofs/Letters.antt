-- Lists of letters: groups in the order of their layers.
use Rattle.std.proofs.Common.{◌≡◌, inl, inr, ℕ, ◌+◌, ◌≤◌, ◌<◌, zero, suc, Bool, true, false, if◌then◌else◌, nat_eq, List, [], ◌∷◌, ◌++◌, slice_get, length, Some, None, get_or, refl, ap, subst, arith, eq-eqb}
use Rattle.std.specs.List.{sum_by}
use Rattle.std.proofs.lemmas.List.Sums.{get_or-le-sum_by, sum_by-cons}
use Rattle.std.proofs.lemmas.Bool.{cases_eq, ne_eqb}
use Rattle.pass_ledger.specs.Letters.{of, layer_of, InGroups, is_at, states_at, all_states_at, tells_at, told_at}
use Rattle.dp_claims.specs.Enough.{Has}
use Rattle.state_layout.specs.declared.node.Node.{Node}
use Rattle.pass_ledger.specs.declared.mail.Letter.{Letter}
use Rattle.pass_ledger.specs.declared.mail.Letter.TheVariants.{State, Mark}
use Rattle.pass_ledger.proofs.Lists.{sum_has, within, has_none, has_head}

-- no letter is of a layer below the one at which the list begins
pub above : (l n : ℕ) (xs : List Letter) (y : Letter) (ys : List Letter) → InGroups l n (xs ++ y ∷ ys) → l ≤ layer_of y
above l n [] (State f layer node) ys h = omega (arith, h.0)
above l n [] (Mark f layer to_you total) ys h = omega (arith, h.0)
above l n (State f layer node ∷ xs) y ys h = above l (n + 1) xs y ys h.1
above l n (Mark f layer to_you total ∷ xs) y ys h = let a = above (l + 1) 0 xs y ys h.2 in omega arith

-- what follows the mark of a layer is of a later one
pub after_mark : (l n : ℕ) (xs : List Letter) (y : Letter) (ys : List Letter) → InGroups l n (xs ++ y ∷ ys) → (k f layer to_you total : ℕ) → slice_get xs k ≡ Some (Mark f layer to_you total) → layer < layer_of y
after_mark l n [] y ys h k f layer to_you total e = let no : None ≡ Some (Mark f layer to_you total) = e in absurd (cc)
after_mark l n (State f' layer' node ∷ xs) y ys h zero f layer to_you total e = let no : Some (State f' layer' node) ≡ Some (Mark f layer to_you total) = e in absurd (cc)
after_mark l n (State f' layer' node ∷ xs) y ys h (suc k) f layer to_you total e = after_mark l (n + 1) xs y ys h.1 k f layer to_you total e
after_mark l n (Mark f' layer' y' t' ∷ xs) y ys h zero f layer to_you total e =
    let is : Some (Mark f' layer' y' t') ≡ Some (Mark f layer to_you total) = e in
    let same : layer' ≡ layer = cc in
    let a = above (l + 1) 0 xs y ys h.2 in omega (arith, h.0)
after_mark l n (Mark f' layer' y' t' ∷ xs) y ys h (suc k) f layer to_you total e = after_mark (l + 1) 0 xs y ys h.2 k f layer to_you total e

-- a posted state is counted
one_if : (b : Bool) → b ≡ true → 1 ≤ (if b then 1 else 0)
one_if true e = omega arith
one_if false e = absurd (cc)

pub counted : (posted : List (List Letter)) (j f l : ℕ) (n : Node) → Has (of posted j) (State f l n) → 1 ≤ all_states_at l posted
counted posted j f l n h =
    let one : 1 ≤ is_at l (State f l n) = one_if (nat_eq l l) (eq-eqb l l refl) in
    let a = sum_has (is_at l) (of posted j) (State f l n) h in
    let b = get_or-le-sum_by (states_at l) posted j [] (within posted j (State f l n) h) in
    omega arith

is_one : (b : Bool) → b ≡ true → ◌≡◌ {A = ℕ} (if b then 1 else 0) 1
is_one true e = refl
is_one false e = absurd (cc)

is_zero : (b : Bool) → b ≡ false → ◌≡◌ {A = ℕ} (if b then 1 else 0) 0
is_zero true e = absurd (cc)
is_zero false e = refl

-- each letter is of the layer at which the list begins, or of a later one
low : (m n : ℕ) (xs : List Letter) (x : Letter) → InGroups m n xs → Has xs x → m ≤ layer_of x
low m n [] x h k = absurd (has_none x k)
low m n (State f layer node ∷ xs) x h k =
    elim (has_head (State f layer node) xs x k) [ inl e ↦ (let s = ap layer_of e in omega (arith, h.0, s)) | inr b ↦ low m (n + 1) xs x h.1 b ]
low m n (Mark f layer y t ∷ xs) x h k =
    elim (has_head (Mark f layer y t) xs x k) [ inl e ↦ (let s = ap layer_of e in omega (arith, h.0, s)) | inr b ↦ (let a = low (m + 1) 0 xs x h.2 b in omega arith) ]

none_at : (l m n : ℕ) (xs : List Letter) → l < m → InGroups m n xs → states_at l xs ≡ 0
none_at l m n [] lt h = refl
none_at l m n (State f layer node ∷ xs) lt h =
    let a = none_at l m (n + 1) xs lt h.1 in
    let b = sum_by-cons (is_at l) (State f layer node) xs in
    let same = h.0 in
    let c = is_zero (nat_eq layer l) (ne_eqb layer l (λ e. omega arith)) in
    omega (arith, a, b, c)
none_at l m n (Mark f layer y t ∷ xs) lt h =
    let a = none_at l (m + 1) 0 xs (omega arith) h.2 in
    let b = sum_by-cons (is_at l) (Mark f layer y t) xs in
    omega (arith, a, b)

-- ---- what marks tell is how many states of their layer stand in the list

told_one : (b : Bool) (y : ℕ) → b ≡ true → ◌≡◌ {A = ℕ} (if b then y else 0) y
told_one true y e = refl
told_one false y e = absurd (cc)

told_none : (b : Bool) (y : ℕ) → b ≡ false → ◌≡◌ {A = ℕ} (if b then y else 0) 0
told_none true y e = absurd (cc)
told_none false y e = refl

none_told : (l m n : ℕ) (xs : List Letter) → l < m → InGroups m n xs → told_at l xs ≡ 0
none_told l m n [] lt h = refl
none_told l m n (State f layer node ∷ xs) lt h =
    let a = none_told l m (n + 1) xs lt h.1 in
    let b = sum_by-cons (tells_at l) (State f layer node) xs in
    omega (arith, a, b)
none_told l m n (Mark f layer y t ∷ xs) lt h =
    let a = none_told l (m + 1) 0 xs (omega arith) h.2 in
    let b = sum_by-cons (tells_at l) (Mark f layer y t) xs in
    let same = h.0 in
    let c = told_none (nat_eq layer l) y (ne_eqb layer l (λ e. omega arith)) in
    omega (arith, a, b, c)

-- a list that begins at the layer, of which n states have come
told_here : (l n : ℕ) (xs : List Letter) (f y t : ℕ) → InGroups l n xs → Has xs (Mark f l y t) → told_at l xs ≡ n + states_at l xs
told_here l n [] f y t h k = absurd (has_none (Mark f l y t) k)
told_here l n (State f' layer node ∷ xs) f y t h k =
    elim (has_head (State f' layer node) xs (Mark f l y t) k) [
      | inl e ↦ absurd (let clash : State f' layer node ≡ Mark f l y t = e in cc)
      | inr b ↦ (let a = told_here l (n + 1) xs f y t h.1 b in
          let c = sum_by-cons (is_at l) (State f' layer node) xs in
          let c' = sum_by-cons (tells_at l) (State f' layer node) xs in
          let d = is_one (nat_eq layer l) (eq-eqb layer l h.0) in
          omega (arith, a, c, c', d))
    ]
told_here l n (Mark f' layer y' t' ∷ xs) f y t h k =
    let a = none_at l (l + 1) 0 xs (omega arith) h.2 in
    let b = none_told l (l + 1) 0 xs (omega arith) h.2 in
    let c = sum_by-cons (is_at l) (Mark f' layer y' t') xs in
    let c' = sum_by-cons (tells_at l) (Mark f' layer y' t') xs in
    let d = told_one (nat_eq layer l) y' (eq-eqb layer l h.0) in
    omega (arith, a, b, c, c', d, h.1)

told_later : (l m n : ℕ) (xs : List Letter) (f y t : ℕ) → m < l → InGroups m n xs → Has xs (Mark f l y t) → told_at l xs ≡ states_at l xs
told_later l m n [] f y t lt h k = absurd (has_none (Mark f l y t) k)
told_later l m n (State f' layer node ∷ xs) f y t lt h k =
    elim (has_head (State f' layer node) xs (Mark f l y t) k) [
      | inl e ↦ absurd (let clash : State f' layer node ≡ Mark f l y t = e in cc)
      | inr b ↦ (let a = told_later l m (n + 1) xs f y t lt h.1 b in
          let c = sum_by-cons (is_at l) (State f' layer node) xs in
          let c' = sum_by-cons (tells_at l) (State f' layer node) xs in
          let same = h.0 in
          let d = is_zero (nat_eq layer l) (ne_eqb layer l (λ e. omega arith)) in
          omega (arith, a, c, c', d))
    ]
told_later l m n (Mark f' layer y' t' ∷ xs) f y t lt h k =
    let c = sum_by-cons (is_at l) (Mark f' layer y' t') xs in
    let c' = sum_by-cons (tells_at l) (Mark f' layer y' t') xs in
    let same = h.0 in
    let d = told_none (nat_eq layer l) y' (ne_eqb layer l (λ e. omega arith)) in
    elim (has_head (Mark f' layer y' t') xs (Mark f l y t) k) [
      | inl e ↦ (let is = ap layer_of e in absurd (omega arith))
      | inr b ↦ elim (cases_eq (m + 1) l) [
        | inl e ↦ (let a = told_here l 0 xs f y t (subst (λ (x : ℕ). InGroups x 0 xs) e h.2) b in omega (arith, a, c, c', d))
        | inr ne ↦ (let a = told_later l (m + 1) 0 xs f y t (omega arith) h.2 b in omega (arith, a, c, c', d))
      ]
    ]

-- what the marks of a layer tell is how many of its states stand in the list, where it has a mark of the layer
pub told_is : (l : ℕ) (xs : List Letter) (f y t : ℕ) → InGroups 1 0 xs → Has xs (Mark f l y t) → told_at l xs ≡ states_at l xs
told_is l xs f y t h k =
    let le = low 1 0 xs (Mark f l y t) h k in
    elim (cases_eq 1 l) [
      | inl e ↦ (let a = told_here l 0 xs f y t (subst (λ (x : ℕ). InGroups x 0 xs) e h) k in omega (arith, a))
      | inr ne ↦ told_later l 1 0 xs f y t (omega arith) h k
    ]

-- the first layer of letters is 1
pub from_one : (xs : List Letter) (x : Letter) → InGroups 1 0 xs → Has xs x → 1 ≤ layer_of x
from_one xs x h k = low 1 0 xs x h k

pub sums_same : {A : Type 0} (f g : A → ℕ) (xs : List A) (d : A) → ((j : ℕ) → j < length xs → f (get_or xs j d) ≡ g (get_or xs j d)) → sum_by f xs ≡ sum_by g xs
sums_same f g [] d each = refl
sums_same f g (x ∷ xs) d each =
    let a = sum_by-cons f x xs in
    let b = sum_by-cons g x xs in
    let c = sums_same f g xs d (λ j lt. each (suc j) (omega arith)) in
    let h = each 0 (omega arith) in
    omega (arith, a, b, c, h)
