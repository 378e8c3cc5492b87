-- What the number of the line `search visited` counts.
use Rattle.std.specs.Prelude.{ℕ, ◌≤◌, IfSome}
use Rattle.best_ledger.specs.Ends.{HasClosed, no_word}
use Rattle.best_ledger.specs.Right.{BestEnding, BestRun, Ended, OutOfMemory}
use Rattle.best_ledger.specs.Searches.{search_of}
use Rattle.dp_model.specs.declared.answers.Options.{Options}
use Rattle.dp_model.specs.declared.answers.Verdict.TheVariants as verdicts
use Rattle.dp_model.specs.declared.whole.Model.{Model}

-- the search of a run that ends so has closed
abbrev pub Closes : BestEnding → Type 0
Closes (Ended (verdicts.Optimal cost)) = Unit {0}
Closes (Ended verdicts.Infeasible) = Unit {0}
Closes (Ended (verdicts.Stopped visits)) = ⊥
Closes (Ended (verdicts.Fault fault)) = ⊥
Closes (Ended (verdicts.Legal cost)) = ⊥
Closes (Ended (verdicts.Illegal done reason)) = ⊥
Closes OutOfMemory = ⊥

-- Where the search of a run has closed, it has a closed ledger with a shard for each worker, and the number is that of the visits in
-- the ledger. What was found has its best word.
abbrev pub IsCounted : Model → Options → BestRun → Type 0
IsCounted m options r = Closes r.ending → IfSome r.visited (λ visited. (some : 1 ≤ options.workers) × (best : ℕ) × HasClosed (search_of m options some) no_word best visited r.found)
