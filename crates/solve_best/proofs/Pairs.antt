-- As many pairs as fewer.
use Rattle.std.proofs.Common.{◌≡◌, ℕ, ◌≤◌, List, [], ◌∷◌, ◌++◌, Option, ℤ, sym, subst, take, drop, arith}
use Rattle.std.proofs.lemmas.List.{take-append-drop, length-take-le}
use Rattle.best_ledger.specs.Enough.{ArePriced, IsAtMostPriced}
use Rattle.dp_claims.specs.Enough.{Different, Has}
use Rattle.dp_model.specs.declared.parts.PlainState.{PlainState}
use Rattle.dp_model.specs.declared.whole.Model.{Model}
use Rattle.pass_ledger.proofs.Lists.{has_left}

different_front : {A : Type 0} (xs ys : List A) → Different (xs ++ ys) → Different xs
different_front [] ys d = tt
different_front (x ∷ xs) ys d = (λ h. d.0 (has_left xs ys x h), different_front xs ys d.1)

-- where there are n different pairs, there are fewer
pub priced_less : (m : Model) (n k : ℕ) → IsAtMostPriced m n → k ≤ n → IsAtMostPriced m k
priced_less m n k h few =
    let pairs = h.0 in
    let whole : take k pairs ++ drop k pairs ≡ pairs = take-append-drop k pairs in (
      take k pairs,
      record {
        different = different_front (take k pairs) (drop k pairs) (subst (λ (xs : List (PlainState × Option ℤ)). Different xs) (sym whole) h.1.different);
        each = λ pair at. h.1.each pair (subst (λ (xs : List (PlainState × Option ℤ)). Has xs pair) whole (has_left (take k pairs) (drop k pairs) pair at));
      },
      length-take-le k pairs (omega (arith, h.2, few)),
    )
