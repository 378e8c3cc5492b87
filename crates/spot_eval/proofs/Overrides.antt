-- Changes hide what stood in the places of the variables that they set.
use Rattle.std.proofs.Common.{◌≡◌, ℕ, zero, suc, ◌+◌, ◌==◌, ◌⊎◌, inl, inr, Bool, true, false, ◌||◌, List, [], ◌∷◌, set, refl, arith}
use Rattle.dp_model.specs.declared.parts.PlainValue.{PlainValue}
use Rattle.dp_steps.specs.States.{with_changes}
use Rattle.spot_eval.specs.Changes.{is_changed, unchanged, unchanged_from}

-- the lists are of one length, and the same at each variable that no change sets
abbrev Agree : List (ℕ × PlainValue) → ℕ → List PlainValue → List PlainValue → Type 0
Agree changes v [] [] = Unit {0}
Agree changes v [] (y ∷ ys) = ⊥
Agree changes v (x ∷ xs) [] = ⊥
Agree changes v (x ∷ xs) (y ∷ ys) = ((is_changed changes v ≡ true) ⊎ (x ≡ y)) × Agree changes (v + 1) xs ys

stays : (changes : List (ℕ × PlainValue)) (v : ℕ) (xs : List PlainValue) → Agree changes v (unchanged_from changes v xs) xs
stays changes v [] = tt
stays changes v (x ∷ xs) = (by (is_changed changes v) refl, stays changes (v + 1) xs)
  where
    by : (b : Bool) → is_changed changes v ≡ b → (is_changed changes v ≡ true) ⊎ (unchanged (is_changed changes v) x ≡ x)
    by true e = inl e
    by false e = inr (rw e refl)

all_same : (v : ℕ) (xs ys : List PlainValue) → Agree [] v xs ys → xs ≡ ys
all_same v [] [] h = refl
all_same v [] (y ∷ ys) h = absurd h
all_same v (x ∷ xs) [] h = absurd h
all_same v (x ∷ xs) (y ∷ ys) h = by h.0 (all_same (v + 1) xs ys h.1)
  where
    by : (false ≡ true) ⊎ (x ≡ y) → xs ≡ ys → x ∷ xs ≡ y ∷ ys
    by (inl e) rest = absurd (cc)
    by (inr e) rest = cc

-- the lists still agree where no variable from this one on is set by the change that goes
later : (c : ℕ × PlainValue) (changes : List (ℕ × PlainValue)) (v : ℕ) (xs ys : List PlainValue) → ((k : ℕ) → (c.0 == (v + k)) ≡ false) → Agree (c ∷ changes) v xs ys → Agree changes v xs ys
later c changes v [] [] less h = tt
later c changes v [] (y ∷ ys) less h = h
later c changes v (x ∷ xs) [] less h = h
later c changes v (x ∷ xs) (y ∷ ys) less h = (by h.0, later c changes (v + 1) xs ys (λ k. next k) h.1)
  where
    next : (k : ℕ) → (c.0 == (v + 1 + k)) ≡ false
    next k = let e : v + 1 + k ≡ v + (1 + k) = omega arith in rw e (less (1 + k))

    by : (((c.0 == v) || is_changed changes v) ≡ true) ⊎ (x ≡ y) → (is_changed changes v ≡ true) ⊎ (x ≡ y)
    by (inl e) = let f : (c.0 == v) ≡ false = (let g = less 0 in let z : v + 0 ≡ v = omega arith in rw z at g) in inl (rw f at e)
    by (inr e) = inr e

-- the variable at this distance is set in both
set_both : (c : ℕ × PlainValue) (changes : List (ℕ × PlainValue)) (v n : ℕ) (xs ys : List PlainValue) → c.0 ≡ v + n → Agree (c ∷ changes) v xs ys → Agree changes v (set xs n c.1) (set ys n c.1)
set_both c changes v n [] [] is h = tt
set_both c changes v n [] (y ∷ ys) is h = absurd h
set_both c changes v n (x ∷ xs) [] is h = absurd h
set_both c changes v zero (x ∷ xs) (y ∷ ys) is h = (inr refl, later c changes (v + 1) xs ys (λ k. past k) h.1)
  where
    past : (k : ℕ) → (c.0 == (v + 1 + k)) ≡ false
    past k = grind arith
set_both c changes v (suc n) (x ∷ xs) (y ∷ ys) is h = (by h.0, set_both c changes (v + 1) n xs ys (omega (arith, is)) h.1)
  where
    by : (((c.0 == v) || is_changed changes v) ≡ true) ⊎ (x ≡ y) → (is_changed changes v ≡ true) ⊎ (x ≡ y)
    by (inl e) = let f : (c.0 == v) ≡ false = grind arith in inl (rw f at e)
    by (inr e) = inr e

same_changes : (changes : List (ℕ × PlainValue)) (xs ys : List PlainValue) → Agree changes 0 xs ys → with_changes xs changes ≡ with_changes ys changes
same_changes [] xs ys h = all_same 0 xs ys h
same_changes (c ∷ changes) xs ys h = same_changes changes (set xs c.0 c.1) (set ys c.0 c.1) (set_both c changes 0 c.0 xs ys (omega arith) h)

pub changed_same : (changes : List (ℕ × PlainValue)) (xs : List PlainValue) → with_changes (unchanged_from changes 0 xs) changes ≡ with_changes xs changes
changed_same changes xs = same_changes changes (unchanged_from changes 0 xs) xs (stays changes 0 xs)
