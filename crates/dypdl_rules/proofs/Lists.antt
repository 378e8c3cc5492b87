-- The last of some parameters, and parameters put behind others.
use Rattle.std.proofs.Common.{◌≡◌, ℕ, ◌-◌, ◌≤◌, List, [], ◌∷◌, ◌++◌, length, take, drop, sym, arith, length-append, ◌∙◌, ap}
use Rattle.std.proofs.lemmas.List.{take-append-le, take-append-drop, length-take-le}
use Rattle.std.proofs.Math.Seq.{take-append_seam}

-- all but the last
pub front : {A : Type 0} (xs ys : List A) (last : A) → xs ≡ ys ++ last ∷ [] → take (length xs - 1) xs ≡ ys
front xs ys last e =
    let n : length (ys ++ last ∷ []) - 1 ≡ length ys = omega (arith, length-append ys (last ∷ [])) in
    rw e (rw n (take-append_seam ys (last ∷ [])))

-- all but what was put behind
pub popped : {A : Type 0} (xs ys : List A) → take (length (xs ++ ys) - length ys) (xs ++ ys) ≡ xs
popped xs ys =
    let n : length (xs ++ ys) - length ys ≡ length xs = omega (arith, length-append xs ys) in
    rw n (take-append_seam xs ys)

-- one fewer
pub fewer : {A : Type 0} (m : ℕ) (xs : List A) → m ≤ length xs → take (length (take m xs) - 1) (take m xs) ≡ take (m - 1) xs
fewer m xs h =
    let n : length (take m xs) ≡ m = length-take-le m xs h in
    let e : m - 1 ≤ length (take m xs) = omega arith in
    rw n (sym (take-append-le (m - 1) (take m xs) (drop m xs) e) ∙ ap (λ ys. take (m - 1) ys) (take-append-drop m xs))
