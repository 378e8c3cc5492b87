use Rattle.std.proofs.Common.{◌≡◌, length}
use Rattle.spot_eval.specs.Moves.{others_of}
use Rattle.successors.specs.Switches.{AreSwitches}
use Rattle.successors.proofs.switches.switches_of.Given as goal

-- each number so far has its switch
abbrev pub invariant-loop-number : goal.invariant-loop-number
invariant-loop-number l = AreSwitches l.model (others_of l.model) l.switches.items × (length l.switches.items ≡ l.number-index)
