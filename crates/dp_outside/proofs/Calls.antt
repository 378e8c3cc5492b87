-- When a read call fails, said of a shelf's own fields and of what contracts see of it.
use Rattle.std.proofs.Common.{◌≡◌, ℕ, ◌↔◌, ◌⊎◌, List, Option, Result, subst, Contains, IsErr, IsNone}
use Rattle.dp_outside.specs.declared.failing.Failed.{Failed}

-- the same numbers, the same call and the same file fail the same way
pub fails-along : (failing seen : List ℕ) (call next : ℕ) (file found : Option (List ℕ)) (outcome : Result ℕ Failed) → failing ≡ seen → call ≡ next → file ≡ found → (IsErr outcome ↔ (Contains failing call ⊎ IsNone file)) → IsErr outcome ↔ (Contains seen next ⊎ IsNone found)
fails-along failing seen call next file found outcome same_numbers same_call same_file fails =
    subst (λ (numbers : List ℕ). IsErr outcome ↔ (Contains numbers next ⊎ IsNone found)) same_numbers
    (subst (λ (number : ℕ). IsErr outcome ↔ (Contains failing number ⊎ IsNone found)) same_call
    (subst (λ (bytes : Option (List ℕ)). IsErr outcome ↔ (Contains failing call ⊎ IsNone bytes)) same_file fails))
