use Rattle.std.proofs.Common.{◌≡◌, drop}
use Rattle.state_layout.specs.Packing.{state_in}
use Rattle.spot_eval.specs.Moves.{first_enabled}
use Rattle.packed_spots.proofs.moves.first_enabled.Given as goal

-- what is left decides
abbrev pub invariant-loop-number : goal.invariant-loop-number
invariant-loop-number l = first_enabled l.at.model.now (state_in l.at.words.now) (drop l.number-index l.numbers) ≡ first_enabled l.at.model.now (state_in l.at.words.now) l.numbers
