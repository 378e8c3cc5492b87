use Rattle.std.proofs.Common.{◌≡◌, None, drop}
use Rattle.state_layout.specs.Packing.{state_in}
use Rattle.spot_eval.specs.Looks.{tightest_at}
use Rattle.packed_spots.proofs.looks.tightest.Given as goal

-- what is left decides
abbrev pub invariant-loop-place : goal.invariant-loop-place
invariant-loop-place l = tightest_at l.model (state_in l.at.words.now) l.place l.best (drop l.place l.model.bounds) ≡ tightest_at l.model (state_in l.at.words.now) 0 None l.model.bounds
