-- What the forms over sets make of an operand that is still to be evaluated, given the operands before it.
use Rattle.std.specs.Prelude.{ℕ, Bool, not, ◌&&◌, ◌||◌, ◌==◌, List, length, Result, Ok, ℤ}
use Rattle.std.specs.List.{list_all}
use Rattle.std.specs.Str.{bytes_eq}
use Rattle.dp_base.specs.Results.{◌>>=◌}
use Rattle.dp_model.specs.declared.answers.FaultKind.{FaultKind}
use Rattle.dp_model.specs.declared.trees.SetOp.{SetOp}
use Rattle.dp_model.specs.Evaluation.{set_operation, members_where, member_of, has}

-- ---- sets, each of an object type with this count

abbrev pub operated_by : SetOp → (count : ℕ) → List ℕ → Result (List ℕ) FaultKind → Result (List ℕ) FaultKind
operated_by op count xs operand = operand >>= λ ys. Ok (set_operation op count xs ys)

abbrev pub complement_of : (count : ℕ) → Result (List ℕ) FaultKind → Result (List ℕ) FaultKind
complement_of count operand = operand >>= λ xs. Ok (members_where count (λ k. not (has xs k)))

abbrev pub with_in : (count : ℕ) → ℤ → Result (List ℕ) FaultKind → Result (List ℕ) FaultKind
with_in count z operand = operand >>= λ xs. member_of count z >>= λ e. Ok (members_where count (λ k. k == e || has xs k))

abbrev pub without_in : (count : ℕ) → ℤ → Result (List ℕ) FaultKind → Result (List ℕ) FaultKind
without_in count z operand = operand >>= λ xs. member_of count z >>= λ e. Ok (members_where count (λ k. not (k == e) && has xs k))

-- ---- conditions

abbrev pub is_same_as : List ℕ → Result (List ℕ) FaultKind → Result Bool FaultKind
is_same_as xs operand = operand >>= λ ys. Ok (bytes_eq xs ys)

abbrev pub is_within : List ℕ → Result (List ℕ) FaultKind → Result Bool FaultKind
is_within xs operand = operand >>= λ ys. Ok (list_all (has ys) xs)

abbrev pub is_member_in : (count : ℕ) → ℤ → Result (List ℕ) FaultKind → Result Bool FaultKind
is_member_in count z operand = operand >>= λ xs. member_of count z >>= λ k. Ok (has xs k)

abbrev pub is_empty : Result (List ℕ) FaultKind → Result Bool FaultKind
is_empty operand = operand >>= λ xs. Ok (length xs == 0)
