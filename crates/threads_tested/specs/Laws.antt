-- The laws of counted lists.
use Rattle.std.specs.Prelude.{◌≡◌, ℕ, List, [], ◌∷◌, ◌++◌, slice_get, Some}
use Rattle.std.proofs.Common.{zero, suc}
use Rattle.std.proofs.lemmas.Option.{none-some}
use Rattle.threads_tested.specs.Counted.{IsCounted}
use Rattle.threads_tested.specs.declared.letters.Letter.{Letter}

pub none_counted : (first : ℕ) → IsCounted first []
none_counted first k x at = absurd (none-some x at)

there : (xs ys : List Letter) (k : ℕ) (x : Letter) → slice_get xs k ≡ Some x → slice_get (xs ++ ys) k ≡ Some x
there [] ys k x at = absurd (none-some x at)
there (y ∷ xs) ys zero x at = at
there (y ∷ xs) ys (suc k) x at = there xs ys k x at

pub front_counted : (first : ℕ) (xs ys : List Letter) → IsCounted first (xs ++ ys) → IsCounted first xs
front_counted first xs ys h k x at = h k x (there xs ys k x at)
