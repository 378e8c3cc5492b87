-- What a form makes of the values of its parts, each of which may be a fault.
use Rattle.std.specs.Prelude.{ℕ, Bool, not, List, Result, Ok, ℤ}
use Rattle.dp_base.specs.Results.{◌>>=◌}
use Rattle.dp_model.specs.Evaluation.{compares}
use Rattle.dp_model.specs.declared.answers.FaultKind.{FaultKind}
use Rattle.dp_model.specs.declared.trees.Compare.{Compare}
use Rattle.packed_words.specs.Operands.{with_in, without_in}

abbrev pub compared_by : Compare → Result ℤ FaultKind → Result ℤ FaultKind → Result Bool FaultKind
compared_by op a b = a >>= λ x. b >>= λ y. Ok (compares op x y)

abbrev pub with_by : (count : ℕ) → Result ℤ FaultKind → Result (List ℕ) FaultKind → Result (List ℕ) FaultKind
with_by count n a = n >>= λ z. with_in count z a

abbrev pub without_by : (count : ℕ) → Result ℤ FaultKind → Result (List ℕ) FaultKind → Result (List ℕ) FaultKind
without_by count n a = n >>= λ z. without_in count z a

abbrev pub denied : Result Bool FaultKind → Result Bool FaultKind
denied r = r >>= λ held. Ok (not held)
