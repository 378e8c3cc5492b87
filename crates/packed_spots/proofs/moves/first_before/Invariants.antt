use Rattle.std.proofs.Common.{◌≡◌, filter, drop}
use Rattle.state_layout.specs.Packing.{state_in}
use Rattle.spot_eval.specs.Moves.{first_enabled, goes_before}
use Rattle.packed_spots.proofs.moves.first_before.Given as goal

-- what is left decides
abbrev pub invariant-loop-before : goal.invariant-loop-before
invariant-loop-before l = first_enabled l.at.model.now (state_in l.at.words.now) (filter (goes_before l.at.model.now l.number) (drop l.before-index l.forced)) ≡ first_enabled l.at.model.now (state_in l.at.words.now) (filter (goes_before l.at.model.now l.number) l.forced)
