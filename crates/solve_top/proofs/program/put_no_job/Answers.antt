use Rattle.solve_top.specs.Outcomes.{NoMeaning, NoMemory}
use Rattle.solve_top.proofs.program.put_no_job.Goals as goal

pub returns-in-Usage-clause-printed : goal.returns-in-Usage-clause-printed
returns-in-Usage-clause-printed g c = λ words files none. (NoMeaning, none c.in-Usage.is, c.put_usage.ensures.printed)

pub returns-in-Memory-clause-printed : goal.returns-in-Memory-clause-printed
returns-in-Memory-clause-printed g c = λ words files none. (NoMemory, tt, c.run_out.ensures.printed)
