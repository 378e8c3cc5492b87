-- A table's cell in an expression: its arguments are evaluated, and then it is looked up.
use Rattle.std.proofs.Common.{◌≡◌, ℕ, List, Bool, ℤ, Result, refl}
use Rattle.dp_model.specs.declared.whole.Model.{Model}
use Rattle.dp_model.specs.declared.parts.PlainState.{PlainState}
use Rattle.dp_model.specs.declared.trees.Cond as conds
use Rattle.dp_model.specs.declared.trees.Num as nums
use Rattle.dp_model.specs.declared.trees.SetEx as sets
use Rattle.dp_model.specs.Evaluation.{cells_of, number_cell, truth_cell, set_cell, num_value, set_value, cond_value, ArgValue, CondValue, NumValue, SetValue, arg_step, cond_step, num_step, set_step}
use Rattle.dp_eval.specs.declared.ends.EvalEnd.{EvalEnd}
use Rattle.dp_eval.specs.declared.sets.CountedSet.{CountedSet}
use Rattle.dp_eval.specs.Answers.{Answers, AnswersBy}
use Rattle.dp_eval.specs.Terms.{at_operands, num_values}

module _ (m : Model) (s : PlainState) (t : ℕ) (ns : List nums.Num) (given : List ℕ) where
  -- what a cell stands for

  num_cell-is : (e : nums.Num) → nums.out-Num e ≡ nums.Num-F.Num::Cell t ns → num_value m s e given ≡ at_operands m t (number_cell (cells_of m t)) (num_values m s ns given)
  num_cell-is e p = rw (nums.fold_out-Num ArgValue CondValue NumValue SetValue arg_step (cond_step m s) (num_step m s) (set_step m s) e, p) refl

  cond_cell-is : (e : conds.Cond) → conds.out-Cond e ≡ conds.Cond-F.Cond::Cell t ns → cond_value m s e given ≡ at_operands m t (truth_cell (cells_of m t)) (num_values m s ns given)
  cond_cell-is e p = rw (conds.fold_out-Cond ArgValue CondValue NumValue SetValue arg_step (cond_step m s) (num_step m s) (set_step m s) e, p) refl

  set_cell-is : (e : sets.SetEx) → sets.out-SetEx e ≡ sets.SetEx-F.SetEx::Cell t ns → (set_value m s e).1 given ≡ at_operands m t (set_cell (cells_of m t)) (num_values m s ns given)
  set_cell-is e p = rw (sets.fold_out-SetEx ArgValue CondValue NumValue SetValue arg_step (cond_step m s) (num_step m s) (set_step m s) e, p) refl

  -- what answers so answers the expression

  pub num_cell-answers : (e : nums.Num) (r : Result ℤ EvalEnd) → nums.out-Num e ≡ nums.Num-F.Num::Cell t ns → Answers r (at_operands m t (number_cell (cells_of m t)) (num_values m s ns given)) → Answers r (num_value m s e given)
  num_cell-answers e r p h = rw (num_cell-is e p) h

  pub cond_cell-answers : (e : conds.Cond) (r : Result Bool EvalEnd) → conds.out-Cond e ≡ conds.Cond-F.Cond::Cell t ns → Answers r (at_operands m t (truth_cell (cells_of m t)) (num_values m s ns given)) → Answers r (cond_value m s e given)
  cond_cell-answers e r p h = rw (cond_cell-is e p) h

  pub set_cell-answers : (e : sets.SetEx) (r : Result CountedSet EvalEnd) → sets.out-SetEx e ≡ sets.SetEx-F.SetEx::Cell t ns → AnswersBy (λ (set : CountedSet). set.members) r (at_operands m t (set_cell (cells_of m t)) (num_values m s ns given)) → AnswersBy (λ (set : CountedSet). set.members) r ((set_value m s e).1 given)
  set_cell-answers e r p h = rw (set_cell-is e p) h
