use Rattle.std.proofs.Common.{take, None}
use Rattle.best_ends.specs.Left.{IsSomeFault}
use Rattle.best_ends.proofs.faults.first_fault.Given as goal

abbrev pub invariant-loop-end : goal.invariant-loop-end
invariant-loop-end l = IsSomeFault (take l.end-index l.ends) None
