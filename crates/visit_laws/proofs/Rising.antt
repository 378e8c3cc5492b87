-- Lists of numbers that rise from a number on, and strictly increasing ones.
use Rattle.std.proofs.Common.{◌≡◌, ℕ, zero, suc, ◌+◌, ◌<◌, ◌≤◌, List, [], ◌∷◌, arith}
use Rattle.std.specs.List.Sorted.{IsStrictlyIncreasing}

-- each is at least the next number after the one before it, from one on
abbrev pub Rises : ℕ → List ℕ → Type 0
Rises from [] = Unit {0}
Rises from (x ∷ xs) = (from ≤ x) × Rises (x + 1) xs

pub rises_sooner : (from to : ℕ) (xs : List ℕ) → from ≤ to → Rises to xs → Rises from xs
rises_sooner from to [] low h = tt
rises_sooner from to (x ∷ xs) low h = let high : to ≤ x = h.0 in (omega arith, h.1)

pub increasing : (from : ℕ) (xs : List ℕ) → Rises from xs → IsStrictlyIncreasing xs
increasing from [] h k low = absurd (omega arith)
increasing from (x ∷ []) h k low = absurd (omega arith)
increasing from (x ∷ y ∷ ys) h zero low = let next : x + 1 ≤ y = h.1.0 in omega arith
increasing from (x ∷ y ∷ ys) h (suc k) low =
    let at : suc k + 1 ≡ suc (k + 1) = omega arith in
    rw at (increasing (x + 1) (y ∷ ys) h.1 k (omega arith))

rises_on : (x : ℕ) (xs : List ℕ) → IsStrictlyIncreasing (x ∷ xs) → Rises (x + 1) xs
rises_on x [] h = tt
rises_on x (y ∷ ys) h =
    let less : x < y = h zero (omega arith) in
    (omega arith, rises_on y ys (λ k low. let at : suc k + 1 ≡ suc (k + 1) = omega arith in rw at at (h (suc k) (omega arith))))

pub rises : (xs : List ℕ) → IsStrictlyIncreasing xs → Rises 0 xs
rises [] h = tt
rises (x ∷ xs) h = (omega arith, rises_on x xs h)
