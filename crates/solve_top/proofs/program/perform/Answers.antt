use Rattle.std.proofs.Common.{Result, Err, map, string_bytes, ap}
use Rattle.command_line.specs.declared.jobs.Job.{Job}
use Rattle.command_line.specs.declared.jobs.WordsEnd.{WordsEnd}
use Rattle.solve_top.proofs.Fitting.{job_fits}
use Rattle.solve_top.proofs.program.perform.Goals as goal

pub perform_job-requires-after_bounds : goal.perform_job-requires-after_bounds
perform_job-requires-after_bounds g c = λ _ _. job_fits (map string_bytes c.args.words.now.items) c.in-Ok.job c.in-Ok.ensures.job

pub returns-in-Ok-clause-printed : goal.returns-in-Ok-clause-printed
returns-in-Ok-clause-printed g c = c.perform_job.ensures.printed (map string_bytes c.args.words.now.items) c.in-Ok.ensures.job

pub returns-in-Err-clause-printed : goal.returns-in-Err-clause-printed
returns-in-Err-clause-printed g c =
    let end_as : WordsEnd → Result Job WordsEnd = λ (end : WordsEnd). Err end in
    c.put_no_job.ensures.printed (map string_bytes c.args.words.now.items) (g.F.Shelf.bytes_under c.args.shelf.now) (λ same. c.in-Err.ensures.usage (ap end_as same))
