-- What an evaluator answers.
use Rattle.std.specs.Prelude.{◌≡◌, List, ◌++◌, Result, Ok, Err}
use Rattle.dp_base.specs.Results.{◌>>=◌}
use Rattle.dp_model.specs.declared.answers.FaultKind.{FaultKind}
use Rattle.dp_eval.specs.declared.ends.EvalEnd.{EvalEnd}
use Rattle.dp_eval.specs.declared.ends.EvalEnd.TheVariants.{Fault, Memory}

-- The answer stands for this value, or is this fault. `Memory` alone is free.
abbrev pub AnswersBy : {A B : Type 0} → (A → B) → Result A EvalEnd → Result B FaultKind → Type 0
AnswersBy f (Ok x) value = value ≡ Ok (f x)
AnswersBy f (Err (Fault kind)) value = value ≡ Err kind
AnswersBy f (Err Memory) value = Unit {0}

-- the answer is this value or this fault
abbrev pub Answers : {A : Type 0} → Result A EvalEnd → Result A FaultKind → Type 0
Answers (Ok x) value = value ≡ Ok x
Answers (Err (Fault kind)) value = value ≡ Err kind
Answers (Err Memory) value = Unit {0}

-- what was pushed onto a list is this value
abbrev pub Pushes : {A B : Type 0} → Result A EvalEnd → List B → Result (List B) FaultKind → List B → Type 0
Pushes (Ok done) before value after = (value >>= λ more. Ok (before ++ more)) ≡ Ok after
Pushes (Err (Fault kind)) before value after = value ≡ Err kind
Pushes (Err Memory) before value after = Unit {0}
