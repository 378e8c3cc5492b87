-- A `forall` over members that were listed before.
use Rattle.std.proofs.Common.{◌≡◌, ℕ, List, [], ◌∷◌, ◌++◌, Bool, Result}
use Rattle.dp_model.specs.declared.whole.Model.{Model}
use Rattle.dp_model.specs.declared.parts.PlainState.{PlainState}
use Rattle.dp_model.specs.declared.trees.Over.{Over}
use Rattle.dp_model.specs.declared.trees.Cond as conds
use Rattle.dp_model.specs.Evaluation.{each_holds, range_of, cond_value, ArgValue, CondValue, NumValue, SetValue, arg_step, cond_step, num_step, set_step}
use Rattle.dp_eval.specs.declared.ends.EvalEnd.{EvalEnd}
use Rattle.dp_eval.specs.Answers.{Answers}

pub all-answers : (m : Model) (s : PlainState) (over : Over) (e c : conds.Cond) (given members : List ℕ) (r : Result Bool EvalEnd) → conds.out-Cond e ≡ conds.Cond-F.All over c → members ≡ range_of m s over → Answers r (each_holds (λ k. cond_value m s c (given ++ k ∷ [])) members) → Answers r (cond_value m s e given)
all-answers m s over e c given members r p n h =
    rw (conds.fold_out-Cond ArgValue CondValue NumValue SetValue arg_step (cond_step m s) (num_step m s) (set_step m s) e, p, ← n) h
