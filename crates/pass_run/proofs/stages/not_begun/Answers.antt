use Rattle.std.proofs.Common.{refl, sym, subst}
use Rattle.pass_over.specs.Announcements.{RanOut}
use Rattle.pass_over.proofs.Running.{no_memory}
use Rattle.pass_run.proofs.stages.not_begun.Goals as goal

pub returns-clause-memory : goal.returns-clause-memory
returns-clause-memory c = subst RanOut (sym c.out_of_memory.ensures) refl

pub returns-clause-answer : goal.returns-clause-answer
returns-clause-answer c = λ p whole. no_memory p c.args.seat.now.view c.args.seat.now.view c.out_of_memory.result c.out_of_memory.ensures refl (c.visits_so_far.ensures.late whole)
