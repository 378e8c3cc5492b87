use Rattle.std.proofs.Common.{◌≡◌, drop}
use Rattle.dp_steps.specs.States.{are_members}
use Rattle.state_layout.specs.Packing.{state_in}
use Rattle.packed_spots.proofs.moves.are_members.Given as goal

-- what is left decides
abbrev pub invariant-loop-place : goal.invariant-loop-place
invariant-loop-place l = are_members (state_in l.at.words.now) (drop l.place l.params) (drop l.place l.at.args.now) ≡ are_members (state_in l.at.words.now) l.params l.at.args.now
