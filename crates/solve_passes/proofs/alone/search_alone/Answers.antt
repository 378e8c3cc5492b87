use Rattle.solve_passes.proofs.AtTarget.{no_memory}
use Rattle.solve_passes.proofs.Concluding.{answered}
use Rattle.solve_passes.proofs.alone.search_alone.Goals as goal

pub returns-in-Err-clause-concluded : goal.returns-in-Err-clause-concluded
returns-in-Err-clause-concluded g c = answered c.solved_by.result c.solved_by.ensures (no_memory c.args.model.now c.args.options.now c.args.gap c.args.printing (g.S.Sink.taken c.args.out.now) (g.S.Sink.taken c.run_out.new.out) c.run_out.result c.run_out.ensures.printed)
