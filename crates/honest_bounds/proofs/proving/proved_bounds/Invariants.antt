use Rattle.std.proofs.Common.{◌≡◌, ℕ, true, Some, length, slice_get}
use Rattle.dp_model.specs.declared.trees.Num.{Num}
use Rattle.part_laws.specs.Laws.{IsProvedBound}
use Rattle.honest_bounds.proofs.proving.proved_bounds.Given as goal

abbrev pub invariant-loop-place : goal.invariant-loop-place
invariant-loop-place l = record {
  many : length l.proved.items ≡ l.place;
  proved : (i : ℕ) (e : Num) → slice_get l.proved.items i ≡ Some true → slice_get l.model.bounds i ≡ Some e → IsProvedBound l.model e;
}
