-- The first ones of a list that are all true.
use Rattle.std.proofs.Common.{◌≡◌, ℕ, zero, suc, ◌+◌, ◌<◌, ◌≤◌, Bool, true, false, ◌&&◌, List, [], ◌∷◌, ◌++◌, length, drop, get_or, slice_get, Some, refl, sym, ap, ◌∙◌, arith, add-one, drop-cons, append_assoc, append-nil}
use Rattle.std.proofs.lemmas.List.{drop_all}
use Rattle.kept_model.specs.Parts.{chosen}
use Rattle.honest_parts.specs.First.{AreFirst}

-- for each one whether it and each before it is true, where those before the list were or not
abbrev pub first_from : Bool → List Bool → List Bool
first_from so [] = []
first_from so (x ∷ xs) = (so && x) ∷ first_from (so && x) xs

pub first_long : (so : Bool) (xs : List Bool) → length (first_from so xs) ≡ length xs
first_long so [] = refl
first_long so (x ∷ xs) = ap suc (first_long (so && x) xs)

-- each one up to a place is true
abbrev pub AreTrueTo : List Bool → ℕ → Type 0
AreTrueTo xs i = (j : ℕ) → j ≤ i → slice_get xs j ≡ Some true

-- none is, where those before the list were not
none_behind : (xs : List Bool) (i : ℕ) → slice_get (first_from false xs) i ≡ Some true → ⊥
none_behind [] i h = cc
none_behind (x ∷ xs) zero h = cc
none_behind (x ∷ xs) (suc i) h = none_behind xs i h

one_more : (xs : List Bool) (i : ℕ) → AreTrueTo xs i → AreTrueTo (true ∷ xs) (suc i)
one_more xs i all zero le = refl
one_more xs i all (suc j) le = all j (omega arith)

pub first_only : (xs : List Bool) (i : ℕ) → slice_get (first_from true xs) i ≡ Some true → AreTrueTo xs i
first_only [] i h j le = absurd (cc)
first_only (true ∷ xs) zero h zero le = refl
first_only (true ∷ xs) zero h (suc j) le = absurd (omega arith)
first_only (true ∷ xs) (suc i) h j le = one_more xs i (first_only xs i h) j le
first_only (false ∷ xs) zero h j le = absurd (cc)
first_only (false ∷ xs) (suc i) h j le = absurd (none_behind xs i h)

here_true : (x : Bool) (xs : List Bool) (i : ℕ) → AreTrueTo (x ∷ xs) i → x ≡ true
here_true x xs i all = let e : Some x ≡ Some true = all zero (omega arith) in cc

pub first_all : (xs : List Bool) (i : ℕ) → AreTrueTo xs i → slice_get (first_from true xs) i ≡ Some true
first_all [] i all = all i (omega arith)
first_all (true ∷ xs) zero all = refl
first_all (true ∷ xs) (suc i) all = first_all xs i (λ j le. all (suc j) (omega arith))
first_all (false ∷ xs) i all = absurd (let e = here_true false xs i all in cc)

-- one more is looked at
pub first_more : (kept new xs : List Bool) (i : ℕ) (so now x d : Bool) (whole : List Bool) → i < length xs → x ≡ get_or xs i d → now ≡ (so && x) → new ≡ kept ++ now ∷ []
    → kept ++ first_from so (drop i xs) ≡ whole → new ++ first_from now (drop (i + 1) xs) ≡ whole
first_more kept new xs i so now x d whole lt is both pushed h =
    let parts : drop i xs ≡ x ∷ drop (i + 1) xs = rw (add-one, drop-cons xs i d lt) (ap (λ z. z ∷ drop (suc i) xs) (sym is)) in
    ap (λ (ks : List Bool). ks ++ first_from now (drop (i + 1) xs)) pushed
    ∙ append_assoc kept (now ∷ []) (first_from now (drop (i + 1) xs))
    ∙ ap (λ (b : Bool). kept ++ b ∷ first_from b (drop (i + 1) xs)) both
    ∙ ap (λ (ys : List Bool). kept ++ first_from so ys) (sym parts)
    ∙ h

-- none is left
pub first_done : (kept xs : List Bool) (i : ℕ) (so : Bool) (whole : List Bool) → length xs ≤ i → kept ++ first_from so (drop i xs) ≡ whole → kept ≡ whole
first_done kept xs i so whole past h = sym (append-nil kept) ∙ ap (λ (ys : List Bool). kept ++ first_from so ys) (sym (drop_all i xs past)) ∙ h

pub same_place : (i : ℕ) → i ≤ i
same_place i = omega arith

-- what is kept so is first
pub are_first : (xs : List Bool) → AreFirst (first_from true xs)
are_first xs i h = first_all xs i (λ j le. first_only xs (suc i) h j (omega arith))

-- ---- which numbers the kept ones have

none_after : (cs : List Bool) (k : ℕ) → AreFirst (false ∷ cs) → slice_get cs k ≡ Some true → ⊥
none_after cs zero first at = let clash : Some false ≡ Some true = first zero at in cc
none_after cs (suc k) first at = none_after cs k first (first (suc k) at)

none_chosen : {A : Type 0} (choice : List Bool) (xs : List A) → ((k : ℕ) → slice_get choice k ≡ Some true → ⊥) → (i : ℕ) (x : A) → slice_get (chosen choice xs) i ≡ Some x → ⊥
none_chosen [] [] none i x h = cc
none_chosen (c ∷ cs) [] none i x h = cc
none_chosen [] (y ∷ ys) none i x h = cc
none_chosen (true ∷ cs) (y ∷ ys) none i x h = none zero refl
none_chosen (false ∷ cs) (y ∷ ys) none i x h = none_chosen cs ys (λ k at. none (suc k) at) i x h

-- where the first ones are kept, each has the number that it had
pub numbers_kept : {A : Type 0} (choice : List Bool) (xs : List A) → AreFirst choice → (i : ℕ) (x : A) → slice_get (chosen choice xs) i ≡ Some x → slice_get xs i ≡ Some x
numbers_kept [] [] first i x h = h
numbers_kept (c ∷ cs) [] first i x h = h
numbers_kept [] (y ∷ ys) first i x h = absurd (cc)
numbers_kept (true ∷ cs) (y ∷ ys) first zero x h = h
numbers_kept (true ∷ cs) (y ∷ ys) first (suc i) x h = numbers_kept cs ys (λ k at. first (suc k) at) i x h
numbers_kept (false ∷ cs) (y ∷ ys) first i x h = absurd (none_chosen cs ys (λ k at. none_after cs k first at) i x h)
