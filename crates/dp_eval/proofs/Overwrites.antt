-- The last of some values is written over.
use Rattle.std.proofs.Common.{◌≡◌, ℕ, ◌<◌, List, [], ◌∷◌, ◌++◌, length, set, refl, ap, arith}

pub last_set : (args : List ℕ) (k member : ℕ) → set (args ++ k ∷ []) (length args) member ≡ args ++ member ∷ []
last_set [] k member = refl
last_set (x ∷ args) k member = ap (λ (xs : List ℕ). x ∷ xs) (last_set args k member)

pub last_there : (args : List ℕ) (k : ℕ) → length args < length (args ++ k ∷ [])
last_there [] k = omega arith
last_there (x ∷ args) k = omega (arith, last_there args k)
