-- Places in lists of cells, as words of 64 bits.
use Rattle.std.specs.Prelude.{◌≡◌, ℕ, ◌^◌, ◌≤◌, List, Option, Some, None, Result, Ok, Err}
use Rattle.dp_model.specs.declared.answers.FaultKind.{FaultKind}

-- The word is the place. A place without a word is past the end of every list.
abbrev pub IsPlace : ℕ → Option ℕ → Type 0
IsPlace place (Some word) = word ≡ place
IsPlace place None = 2 ^ 64 ≤ place

-- The members lead to the place that the word is, or this fault stands for them.
abbrev pub LeadsTo : Result (Option ℕ) FaultKind → Result (List ℕ) FaultKind → (List ℕ → ℕ) → Type 0
LeadsTo (Ok word) (Ok members) place = IsPlace (place members) word
LeadsTo (Ok word) (Err kind) place = ⊥
LeadsTo (Err kind) members place = members ≡ Err kind
