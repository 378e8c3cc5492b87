-- Members below a count that is one more.
use Rattle.std.proofs.Common.{◌≡◌, ◌++◌, ◌∷◌, ℕ, ◌+◌, [], refl, subst, arith, zero, suc, add-zero}
use Rattle.std.specs.List.{range_with_len}
use Rattle.dypdl_ground.specs.Grounds.{members_below}

range-more : (a n : ℕ) → range_with_len a (n + 1) ≡ range_with_len a n ++ (a + n) ∷ []
range-more a zero = rw add-zero refl
range-more a (suc n) =
    let e : (a + 1) + n ≡ a + suc n = omega arith in
    let f : suc n + 1 ≡ suc (n + 1) = omega arith in
    rw (f, range-more (a + 1) n, e) refl

pub members_more : (n : ℕ) → members_below (n + 1) ≡ members_below n ++ n ∷ []
members_more n = let e : 0 + n ≡ n = omega arith in subst (λ m. range_with_len 0 (n + 1) ≡ range_with_len 0 n ++ m ∷ []) e (range-more 0 n)
