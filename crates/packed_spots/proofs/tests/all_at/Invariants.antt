use Rattle.std.proofs.Common.{◌≡◌, drop}
use Rattle.state_layout.specs.Packing.{state_in}
use Rattle.spot_eval.specs.Looks.{all_at}
use Rattle.packed_spots.proofs.tests.all_at.Given as goal

-- what is left decides
abbrev pub invariant-loop-place : goal.invariant-loop-place
invariant-loop-place l = all_at l.at.model.now (state_in l.at.words.now) l.tests l.at.args.now l.place (drop l.place l.conditions) ≡ all_at l.at.model.now (state_in l.at.words.now) l.tests l.at.args.now 0 l.conditions
