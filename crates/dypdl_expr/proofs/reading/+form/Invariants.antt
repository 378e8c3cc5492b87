use Rattle.std.proofs.Common.{◌+◌, ◌*◌, length}
use Rattle.dypdl_expr.specs.Grammar.{Begins}
use Rattle.dypdl_expr.proofs.ReadSteps.{RowSoFar}
use Rattle.dypdl_expr.proofs.reading.+form.Given as goal

abbrev pub decreases-bars : goal.decreases-bars
decreases-bars l = 3 * l.levels + 1

abbrev pub decreases-first : goal.decreases-first
decreases-first l = 3 * l.levels + 1

abbrev pub decreases-form : goal.decreases-form
decreases-form l = 3 * l.levels

abbrev pub decreases-list : goal.decreases-list
decreases-list l = 3 * l.levels + 2

abbrev pub decreases-row : goal.decreases-row
decreases-row l = 3 * l.levels + 1

abbrev pub invariant-row-loop-items : goal.invariant-row-loop-items
invariant-row-loop-items l = RowSoFar (Begins l.levels) l.fn.head l.fn.tokens l.items.items l.tokens

abbrev pub decreases-row-loop-items : goal.decreases-row-loop-items
decreases-row-loop-items l = length l.tokens
