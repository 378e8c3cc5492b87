use Rattle.std.proofs.Common.{◌≡◌, ℕ, ◌≤◌, ◌-◌, List, IfSome, vec_len}
use Rattle.dp_outside.proofs.Steps.{IsFront}
use Rattle.dp_outside.proofs.reading.read_pieces.Given as goal

abbrev pub invariant-loop-read : goal.invariant-loop-read
invariant-loop-read g l = record {
  short : vec_len l.read ≤ l.limit;
  front : IfSome (g.F.Shelf.bytes_under l.initial.shelf l.name) (λ bytes. IsFront l.read.items bytes);
  count : g.F.Shelf.faults l.initial.shelf ≤ g.F.Shelf.faults l.shelf;
  telling : (file : List ℕ) → g.F.Shelf.bytes_under l.shelf file ≡ g.F.Shelf.bytes_under l.initial.shelf file;
}

abbrev pub decreases-loop-read : goal.decreases-loop-read
decreases-loop-read g l = l.limit - vec_len l.read
