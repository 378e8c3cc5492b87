-- Faults with the spot and the state where they are met, and what a call of the expander answers.
use Rattle.std.specs.Prelude.{◌≡◌, ℕ, Option, Some, None, Result, Ok, Err}
use Rattle.dp_model.specs.declared.answers.FaultKind.{FaultKind}
use Rattle.dp_model.specs.declared.answers.Spot.{Spot}
use Rattle.spot_eval.specs.declared.ends.SpotEnd.{SpotEnd}
use Rattle.spot_eval.specs.declared.ends.SpotEnd.TheVariants as spots
use Rattle.spot_eval.specs.declared.ends.SpotFault.{SpotFault}
use Rattle.successors.specs.declared.ends.ExpandEnd.{ExpandEnd}
use Rattle.successors.specs.declared.ends.ExpandEnd.TheVariants.{Fault, Memory}

-- A fault, the spot where it is met, and the transition that led to the state where it is met, if it is met in a
-- successor of the state at hand.
pub record Met : Type 0 where
  pub spot : Spot
  pub kind : FaultKind
  pub last : Option ℕ

-- what is evaluated in the state at hand
abbrev pub here : {A : Type 0} → Result A SpotFault → Result A Met
here (Ok x) = Ok x
here (Err met) = Err (record { spot = met.spot; kind = met.kind; last = None })

-- what is evaluated in the successor that a transition leads to
abbrev pub after : {A : Type 0} → ℕ → Result A SpotFault → Result A Met
after g (Ok x) = Ok x
after g (Err met) = Err (record { spot = met.spot; kind = met.kind; last = Some g })

-- what a call of the expander ends with, where a part of the model is evaluated in the state at hand
abbrev pub ended : SpotEnd → ExpandEnd
ended (spots.Fault met) = Fault met.spot met.kind None
ended spots.Memory = Memory

-- the answer stands for this value, or is this fault; `Memory` alone is free
abbrev pub AnswersBy : {A B : Type 0} → (A → B) → Result A ExpandEnd → Result B Met → Type 0
AnswersBy view (Ok x) value = value ≡ Ok (view x)
AnswersBy view (Err (Fault spot kind last)) value = value ≡ Err (record { spot = spot; kind = kind; last = last })
AnswersBy view (Err Memory) value = Unit {0}

-- the answer is this value, or this fault
abbrev pub Answers : {A : Type 0} → Result A ExpandEnd → Result A Met → Type 0
Answers (Ok x) value = value ≡ Ok x
Answers (Err (Fault spot kind last)) value = value ≡ Err (record { spot = spot; kind = kind; last = last })
Answers (Err Memory) value = Unit {0}
