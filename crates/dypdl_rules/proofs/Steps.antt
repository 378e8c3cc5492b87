-- One more step of a state.
use Rattle.std.proofs.Common.{◌≡◌, ℕ, ◌+◌, ◌<◌, List, ◌∷◌, drop, get_or, length, Result, Ok, refl, add-one, drop-cons}
use Rattle.dp_base.specs.Results.{each}

pub one_more : {A S E : Type 0} (step : S → A → Result S E) (s t : S) (i : ℕ) (xs : List A) (x : A) → i < length xs → x ≡ get_or xs i x → step s x ≡ Ok t → each step s (drop i xs) ≡ each step t (drop (i + 1) xs)
one_more step s t i xs x h at e =
    let p : drop i xs ≡ x ∷ drop (i + 1) xs = rw (add-one, at) (drop-cons xs i x h) in
    rw (p, e) refl
