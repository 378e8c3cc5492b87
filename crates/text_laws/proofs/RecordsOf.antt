-- What a search that words ask for came to is a record, or a run, of a search.
use Rattle.std.proofs.Common.{List, ℕ, Option}
use Rattle.command_line.specs.declared.jobs.Job.TheVariants as jobs
use Rattle.command_line.specs.declared.jobs.Search.{Search}
use Rattle.pass_ends.specs.Passes.{AreOptions}
use Rattle.solve_top.specs.Jobs.{Asks}
use Rattle.solve_top.proofs.Fitting.{job_fits}
use Rattle.text_laws.specs.BestRuns.{LawRunOf}
use Rattle.text_laws.specs.Records.{LawRecordOf}

fits : (words : List (List ℕ)) (domain problem : List ℕ) (search : Search) → Asks words (jobs.Solve domain problem search) → AreOptions search.options
fits words domain problem search asks = job_fits words (jobs.Solve domain problem search) asks

pub record_of : LawRecordOf
record_of words files m proved searched search r behind comes short =
    let is = comes.4 in
    record { options = search.options; gap = search.gap; fit = fits words comes.0 comes.1 search comes.2; right = is.right; counted = is.counted; short = short }

pub run_of : LawRunOf
run_of words files m proved searched search r behind comes short =
    let is = comes.4 in
    record { options = search.options; fit = fits words comes.0 comes.1 search comes.2; right = is.right; short = short }
