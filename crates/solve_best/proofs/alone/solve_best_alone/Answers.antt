use Rattle.solve_best.proofs.alone.solve_best_alone.Goals as goal
use Rattle.solve_best.specs.Runs.{run_of}

pub returns-clause-concluded : goal.returns-clause-concluded
returns-clause-concluded g c =
    record { run = run_of c.run_alone-run.result; right = c.run_alone-run.ensures.0; counted = c.run_alone-run.ensures.1; word = c.run_alone-run.ensures.2; printed = c.put_run.ensures.printed }
