-- A `forall` over members that are found one after another.
use Rattle.std.proofs.Common.{le-leb, arith, ◌≡◌, ℕ, suc, ◌+◌, add-one, true, List, [], ◌∷◌, ◌++◌, Bool, Result, Ok, refl, ap}
use Rattle.packed_words.specs.Sets.{members_from}
use Rattle.dp_model.specs.declared.answers.FaultKind.{FaultKind}
use Rattle.dp_model.specs.declared.whole.Model.{Model}
use Rattle.dp_model.specs.declared.parts.PlainState.{PlainState}
use Rattle.dp_model.specs.declared.trees.Over.{Over}
use Rattle.dp_model.specs.declared.trees.Cond as conds
use Rattle.dp_model.specs.Evaluation.{each_holds, range_of, cond_value, ArgValue, CondValue, NumValue, SetValue, arg_step, cond_step, num_step, set_step}

pub all_is : (m : Model) (s : PlainState) (over : Over) (e c : conds.Cond) (given members : List ℕ) (r : Result Bool FaultKind) → conds.out-Cond e ≡ conds.Cond-F.All over c → members ≡ range_of m s over → r ≡ each_holds (λ k. cond_value m s c (given ++ k ∷ [])) members → r ≡ cond_value m s e given
all_is m s over e c given members r p n h =
    rw (conds.fold_out-Cond ArgValue CondValue NumValue SetValue arg_step (cond_step m s) (num_step m s) (set_step m s) e, p, ← n) h

-- one member more, with which the condition holds
pub all_step : (f : ℕ → Result Bool FaultKind) (members : ℕ → List ℕ) (from k : ℕ) → members from ≡ k ∷ members (suc k) → f k ≡ Ok true → each_holds f (members (k + 1)) ≡ each_holds f (members from)
all_step f members from k p e = rw (add-one, p, e) refl

pub from_start : (xs : List ℕ) → members_from 0 xs ≡ xs
from_start [] = refl
from_start (x ∷ xs) = rw (le-leb 0 x (omega arith)) (ap (λ (ys : List ℕ). x ∷ ys) (from_start xs))
