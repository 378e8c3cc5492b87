-- Faults with the spot where they are met, and what a call that evaluates parts of a model answers.
use Rattle.std.specs.Prelude.{◌≡◌, Result, Ok, Err}
use Rattle.dp_model.specs.declared.answers.FaultKind.{FaultKind}
use Rattle.dp_model.specs.declared.answers.Spot.{Spot}
use Rattle.spot_eval.specs.declared.ends.SpotFault.{SpotFault}
use Rattle.spot_eval.specs.declared.ends.SpotEnd.{SpotEnd}
use Rattle.spot_eval.specs.declared.ends.SpotEnd.TheVariants.{Fault, Memory}

-- a value at a spot
abbrev pub at_spot : {A : Type 0} → Spot → Result A FaultKind → Result A SpotFault
at_spot spot (Ok x) = Ok x
at_spot spot (Err kind) = Err (record { spot = spot; kind = kind })

-- the answer stands for this value, or is this fault; `Memory` alone is free
abbrev pub AnswersBy : {A B : Type 0} → (A → B) → Result A SpotEnd → Result B SpotFault → Type 0
AnswersBy view (Ok x) value = value ≡ Ok (view x)
AnswersBy view (Err (Fault met)) value = value ≡ Err met
AnswersBy view (Err Memory) value = Unit {0}

-- the answer is this value, or this fault
abbrev pub Answers : {A : Type 0} → Result A SpotEnd → Result A SpotFault → Type 0
Answers (Ok x) value = value ≡ Ok x
Answers (Err (Fault met)) value = value ≡ Err met
Answers (Err Memory) value = Unit {0}
