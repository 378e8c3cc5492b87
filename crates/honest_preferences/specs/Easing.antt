-- A comparison of two numbers that stays true where the resources of a state are better.
use Rattle.std.specs.Prelude.{◌≡◌, Bool, true, List, Result, Ok, ℤ, ℕ}
use Rattle.dp_base.specs.Results.{◌>>=◌}
use Rattle.dp_model.specs.Evaluation.{compares, num_value}
use Rattle.dp_model.specs.declared.answers.FaultKind.{FaultKind}
use Rattle.dp_model.specs.declared.trees.Compare.{Compare}
use Rattle.dp_model.specs.declared.trees.Num.{Num}
use Rattle.dp_model.specs.declared.parts.PlainState.{PlainState}
use Rattle.dp_model.specs.declared.whole.Model.{Model}
use Rattle.honest_preferences.specs.Signs.{IsPair}

abbrev pub compared : Model → PlainState → Compare → (a b : Num) → List ℕ → Result Bool FaultKind
compared m s op a b given = num_value m s a given >>= λ x. num_value m s b given >>= λ y. Ok (compares op x y)

abbrev pub EasesBy : Model → List Bool → List ℤ → Compare → (a b : Num) → Type 0
EasesBy m kept ends op a b = (s other : PlainState) → IsPair m kept ends s other → (given : List ℕ) → compared m other op a b given ≡ Ok true → compared m s op a b given ≡ Ok true
