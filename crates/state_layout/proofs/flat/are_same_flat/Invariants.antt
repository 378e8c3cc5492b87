use Rattle.std.proofs.Common.{◌≡◌, ℕ, ◌<◌}
use Rattle.state_layout.specs.Packing.{word_in}
use Rattle.state_layout.proofs.flat.are_same_flat.Given as goal

abbrev pub invariant-loop-place : goal.invariant-loop-place
invariant-loop-place l = (j : ℕ) → j < l.place → word_in l.a j 0 ≡ word_in l.b j 0
