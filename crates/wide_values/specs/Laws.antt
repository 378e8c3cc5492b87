-- A value, where there is one, is the wide value.
use Rattle.std.specs.Prelude.{◌≡◌, ℕ, Bool, List, Ok, ℤ}
use Rattle.dp_model.specs.Evaluation.{num_value, cond_value, set_value}
use Rattle.dp_model.specs.declared.trees.Num.{Num}
use Rattle.dp_model.specs.declared.trees.SetEx.{SetEx}
use Rattle.dp_model.specs.declared.trees.Cond.{Cond}
use Rattle.dp_model.specs.declared.parts.PlainState.{PlainState}
use Rattle.dp_model.specs.declared.whole.Model.{Model}
use Rattle.wide_values.specs.Wide.{wide_num, wide_cond, wide_set}

pub record LawWide : Type 0 where
  pub num : (m : Model) (s : PlainState) (e : Num) (given : List ℕ) (z : ℤ) → num_value m s e given ≡ Ok z → z ≡ wide_num m s e given
  pub cond : (m : Model) (s : PlainState) (e : Cond) (given : List ℕ) (b : Bool) → cond_value m s e given ≡ Ok b → b ≡ wide_cond m s e given
  pub set : (m : Model) (s : PlainState) (e : SetEx) (given : List ℕ) (xs : List ℕ) → (set_value m s e).1 given ≡ Ok xs → xs ≡ wide_set m s e given
