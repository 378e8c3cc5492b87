-- What effects make of a state that is being made.
use Rattle.std.specs.Prelude.{◌≡◌, ℕ, List, Result, Ok, Err}
use Rattle.dp_model.specs.declared.parts.PlainValue.{PlainValue}
use Rattle.dp_base.specs.Results.{◌>>=◌}
use Rattle.dp_model.specs.declared.answers.FaultKind.{FaultKind}
use Rattle.dp_steps.specs.States.{with_changes}
use Rattle.state_layout.specs.Drafts.{DraftState}
use Rattle.state_layout.specs.Forms.{with_value}
use Rattle.spot_eval.specs.declared.ends.SpotFault.{SpotFault}

-- the answer stands for this value, or is this fault
abbrev pub TellsAt : {A B : Type 0} → (A → B) → Result A SpotFault → Result B SpotFault → Type 0
TellsAt f (Ok x) value = value ≡ Ok (f x)
TellsAt f (Err met) value = value ≡ Err met

-- a state that is being made, with another value of a variable
abbrev pub changed : DraftState → ℕ × PlainValue → DraftState
changed d change = record { slots = d.slots; state = with_value d.state change.0 change.1 }

-- the same with other values of several, one after another
abbrev pub all_changed : DraftState → List (ℕ × PlainValue) → DraftState
all_changed d changes = record { slots = d.slots; state = record { values = with_changes d.state.values changes } }

-- the same where the changes may be a fault
abbrev pub changed_by : DraftState → Result (ℕ × PlainValue) FaultKind → Result DraftState FaultKind
changed_by d change = change >>= λ c. Ok (changed d c)

abbrev pub all_changed_by : DraftState → Result (List (ℕ × PlainValue)) SpotFault → Result DraftState SpotFault
all_changed_by d changes = changes >>= λ cs. Ok (all_changed d cs)
