use Rattle.std.proofs.Common.{◌≡◌, ℕ, ◌<◌}
use Rattle.state_layout.specs.Packing.{value_in}
use Rattle.state_layout.proofs.sames.are_same_values.Given as goal

abbrev pub invariant-loop-place : goal.invariant-loop-place
invariant-loop-place l = (j : ℕ) → j < l.place → value_in l.a j ≡ value_in l.b j
