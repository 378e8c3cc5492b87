-- The run that the code has, as the record that laws speak of, and the run that a search ends.
use Rattle.std.specs.Prelude.{ℕ, Option, Some}
use Rattle.best_ends.specs.declared.answers.BestEnd.{BestEnd}
use Rattle.best_ends.specs.declared.answers.BestEnd.TheVariants as ends
use Rattle.best_ledger.specs.Ends.{verdict_of}
use Rattle.best_ledger.specs.Right.{BestEnding, BestRun, Ended, OutOfMemory, KeepsWordBest, RightBest}
use Rattle.dp_model.specs.declared.answers.Cause.{Cause}
use Rattle.dp_model.specs.declared.answers.Cause.TheVariants as causes
use Rattle.dp_model.specs.declared.answers.Options.{Options}
use Rattle.dp_model.specs.declared.answers.Verdict.TheVariants as verdicts
use Rattle.dp_model.specs.declared.whole.Model.{Model}
use Rattle.solve_best.specs.Counted.{IsCounted}
use Rattle.solve_best.specs.declared.runs.Ending.{Ending}
use Rattle.solve_best.specs.declared.runs.Ending.TheVariants as endings
use Rattle.solve_best.specs.declared.runs.Run.{Run}

abbrev pub ending_of : Ending → BestEnding
ending_of (endings.Ended verdict) = Ended verdict
ending_of endings.OutOfMemory = OutOfMemory

abbrev pub run_of : Run → BestRun
run_of run = record { found = run.found; visited = run.visited; ending = ending_of run.ending }

-- right for the model and the options, its visits are those of a ledger, and its word is kept
abbrev pub IsRight : Model → Options → Run → Type 0
IsRight m options run = RightBest m options (run_of run) × IsCounted m options (run_of run) × KeepsWordBest m options (ending_of run.ending)

-- how a run ends whose search was halted after so many visits
abbrev pub ending_after : Cause → (visited : ℕ) → Ending
ending_after causes.Budget visited = endings.Ended (verdicts.Stopped visited)
ending_after (causes.Fault fault) visited = endings.Ended (verdicts.Fault fault)
ending_after causes.Memory visited = endings.OutOfMemory

-- the run whose search ended so: what it found is printed, whatever the cause of a halt
abbrev pub run_after : BestEnd → Run
run_after (ends.Closed visited best) = record { found = best; visited = Some visited; ending = endings.Ended (verdict_of best) }
run_after (ends.Halted cause visited best) = record { found = best; visited = Some visited; ending = ending_after cause visited }
