use Rattle.std.proofs.Common.{◌≡◌, drop}
use Rattle.state_layout.specs.Packing.{state_in}
use Rattle.state_layout.specs.Tests.{are_at_least}
use Rattle.state_layout.proofs.flat.are_at_least_flat.Given as goal

abbrev pub invariant-loop-place : goal.invariant-loop-place
invariant-loop-place l = are_at_least (drop l.place l.slots) (drop l.place (state_in l.a).values) (drop l.place (state_in l.b).values) ≡ are_at_least l.slots (state_in l.a).values (state_in l.b).values
