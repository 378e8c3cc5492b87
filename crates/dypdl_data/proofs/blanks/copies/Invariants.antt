use Rattle.std.proofs.Common.{◌≡◌, replicate}
use Rattle.dypdl_data.proofs.blanks.copies.Given as goal

abbrev pub invariant-loop : goal.invariant-loop
invariant-loop l = l.sets.items ≡ replicate l.counter l.set
