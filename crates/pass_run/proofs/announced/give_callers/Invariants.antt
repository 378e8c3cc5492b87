use Rattle.std.proofs.Common.{length}
use Rattle.pass_run.proofs.Callers.{AreGiven}
use Rattle.pass_run.proofs.announced.give_callers.Given as goal

-- the first callers are left
abbrev pub invariant-loop-caller : goal.invariant-loop-caller
invariant-loop-caller g l = AreGiven l.queue l.fn.callers l.callers.items l.fn.shards.items l.shards.items

abbrev pub decreases-loop-caller : goal.decreases-loop-caller
decreases-loop-caller g l = length l.callers.items
