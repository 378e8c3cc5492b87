-- How many visits passes make, and how their shares stand to the width.
use Rattle.std.proofs.Common.{◌≡◌, ℕ, ◌+◌, ◌*◌, ◌^◌, ◌<◌, ◌≤◌, inl, inr, List, [], ◌∷◌, ◌++◌, take, drop, sym, ap, ◌∙◌, subst, arith}
use Rattle.std.proofs.Math.Nat.{mul-le-mul_left, pow-suc}
use Rattle.std.proofs.Math.Pow.{pow_mono}
use Rattle.std.proofs.lemmas.Bool.{cases_lt}
use Rattle.std.proofs.lemmas.List.{take-append-drop, length-take-le}
use Rattle.dp_model.specs.declared.answers.Keep.{Keep}
use Rattle.dp_claims.specs.Enough.{Has, Different, AreReachedAtMost, IsAtMostReached, IsBelowEnough, IsWidthAtMost}
use Rattle.dp_model.specs.declared.parts.PlainState.{PlainState}
use Rattle.dp_model.specs.declared.whole.Model.{Model}
use Rattle.pass_ledger.proofs.Lists.{has_left}

-- ---- powers

-- the less power has the less exponent
pub pow_less : (a b : ℕ) → 2 ^ a < 2 ^ b → a < b
pow_less a b h = elim (cases_lt a b) [ inl less ↦ less | inr more ↦ absurd (omega (arith, h, pow_mono {i = b} {j = a} more)) ]

pub pow_next : (k : ℕ) → 2 ^ (k + 1) ≡ 2 ^ k * 2
pow_next k = ap (λ (i : ℕ). 2 ^ i) (omega arith) ∙ pow-suc 2 k

pub pow_some : (k : ℕ) → 1 ≤ 2 ^ k
pow_some k = pow_mono {i = 0} {j = k} (omega arith)

pub pow_small : (k : ℕ) → k ≤ 56 → 2 ^ k ≤ 72057594037927936
pow_small k few = pow_mono {i = k} {j = 56} few

-- ---- pairs

different_front : {A : Type 0} (xs ys : List A) → Different (xs ++ ys) → Different xs
different_front [] ys d = tt
different_front (x ∷ xs) ys d = (λ h. d.0 (has_left xs ys x h), different_front xs ys d.1)

-- less than what is reached is reached
pub reached_less : (m : Model) (keep : Keep) (n k : ℕ) → IsAtMostReached m keep n → k ≤ n → IsAtMostReached m keep k
reached_less m keep n k h few =
    let pairs = h.0 in
    let whole : take k pairs ++ drop k pairs ≡ pairs = take-append-drop k pairs in (
      take k pairs,
      record {
        different = different_front (take k pairs) (drop k pairs) (subst (λ (xs : List (ℕ × PlainState)). Different xs) (sym whole) h.1.different);
        each = λ pair at. h.1.each pair (subst (λ (xs : List (ℕ × PlainState)). Has xs pair) whole (has_left (take k pairs) (drop k pairs) pair at));
      },
      length-take-le k pairs (omega (arith, h.2, few)),
    )

pub reached_at_most : (m : Model) (keep : Keep) (n r : ℕ) → IsAtMostReached m keep n → AreReachedAtMost m keep r → n ≤ r
reached_at_most m keep n r h most = subst (λ (k : ℕ). k ≤ r) h.2 (most h.0 h.1)

-- ---- passes

-- so many passes, each of which visits what can be reached
pub more_drawn : (m : Model) (keep : Keep) (passes before gained : ℕ) → ((r : ℕ) → AreReachedAtMost m keep r → before ≤ passes * r) → IsAtMostReached m keep gained → (r : ℕ) → AreReachedAtMost m keep r → before + gained ≤ (passes + 1) * r
more_drawn m keep passes before gained few reached r most = omega (arith, few r most, reached_at_most m keep gained r reached most)

-- more than the budget was drawn, so the budget is not enough
pub below_enough : (m : Model) (keep : Keep) (budget passes before gained : ℕ) → ((r : ℕ) → AreReachedAtMost m keep r → before ≤ passes * r) → ((w : ℕ) → IsWidthAtMost m keep w → 0 < passes → 2 ^ passes < 2 * w) → IsAtMostReached m keep gained → budget < before + gained → IsBelowEnough m keep budget
below_enough m keep budget passes before gained few narrow reached over e =
    let spent = more_drawn m keep passes before gained few reached e.r e.reached in
    let early : passes ≤ e.k =
    elim (cases_lt 0 passes) [
      | inl some ↦
          let less : 2 ^ passes < 2 ^ (e.k + 1) = omega (arith, narrow e.width e.widest some, e.doubled, pow_next e.k) in
          let fewer = pow_less passes (e.k + 1) less in
          omega (arith, fewer)
      | inr none ↦ omega (arith, none)
    ]
    in
    let most : e.r * (passes + 1) ≤ e.r * (e.k + 1) = mul-le-mul_left e.r (omega (arith, early)) in
    omega (arith, spent, most, over, e.within)
