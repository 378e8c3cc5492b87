-- Values of parameters, each in a word.
use Rattle.std.proofs.Common.{◌≡◌, ℕ, zero, suc, ◌<◌, ◌≤◌, ◌^◌, List, [], ◌∷◌, length, get_or, take, slice_index, refl, arith}
use Rattle.packed_words.specs.Scenes.{AreSmall}

pub four : (xs : List ℕ) → length xs ≤ 4 → take (length xs) (get_or xs 0 0 ∷ get_or xs 1 0 ∷ get_or xs 2 0 ∷ get_or xs 3 0 ∷ []) ≡ xs
four [] h = refl
four (a ∷ []) h = refl
four (a ∷ b ∷ []) h = refl
four (a ∷ b ∷ c ∷ []) h = refl
four (a ∷ b ∷ c ∷ d ∷ []) h = refl
four (a ∷ b ∷ c ∷ d ∷ e ∷ xs) h = absurd (omega arith)

pub four_small : (a b c d : ℕ) → a < 2 ^ 32 → b < 2 ^ 32 → c < 2 ^ 32 → d < 2 ^ 32 → AreSmall (a ∷ b ∷ c ∷ d ∷ [])
four_small a b c d p q r s = record { each = at }
  where
    at : (i : ℕ) → slice_index (a ∷ b ∷ c ∷ d ∷ []) i < 2 ^ 32
    at zero = p
    at (suc zero) = q
    at (suc (suc zero)) = r
    at (suc (suc (suc zero))) = s
    at (suc (suc (suc (suc i)))) = omega arith

-- so are those in front
front : (n : ℕ) (xs : List ℕ) → ((i : ℕ) → slice_index xs i < 2 ^ 32) → (i : ℕ) → slice_index (take n xs) i < 2 ^ 32
front zero xs h i = omega arith
front (suc n) [] h i = omega arith
front (suc n) (x ∷ xs) h zero = h zero
front (suc n) (x ∷ xs) h (suc i) = front n xs (λ i. h (suc i)) i

pub front_small : (n : ℕ) (xs : List ℕ) → AreSmall xs → AreSmall (take n xs)
front_small n xs h = record { each = front n xs h.each }
