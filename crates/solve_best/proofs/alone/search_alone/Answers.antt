use Rattle.std.proofs.Common.{rules}
use Rattle.solve_best.proofs.AtTarget.{no_memory}
use Rattle.solve_best.proofs.Searched.{searched}
use Rattle.solve_best.proofs.alone.search_alone.Goals as goal

pub returns-in-Ok : goal.returns-in-Ok
returns-in-Ok c =
    searched c.args.model.now c.args.options.now c.requires.options.some_workers c.requires.inner _ _ (search rules) (search rules) (search rules) c.run_best_alone-end.result c.run_after.result
    (c.run_best_alone-end.ensures.answer c.requires.options.some_workers) c.run_after.ensures

pub returns-in-Err : goal.returns-in-Err
returns-in-Err c = no_memory c.args.model.now c.args.options.now c.run_out_of_memory.result c.run_out_of_memory.ensures
