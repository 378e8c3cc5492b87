-- The text, the status and the claim of a run of a best-first search.
use Rattle.std.specs.Prelude.{◌≡◌, ℕ, ◌⊎◌, List, [], ◌++◌, Option, None, Some, codes}
use Rattle.best_ledger.specs.Right.{BestEnding, BestRun, Ended, OutOfMemory, KeepsWordBest, RightBest}
use Rattle.dp_base.specs.Bytes.{line}
use Rattle.dp_model.specs.declared.answers.Claim.{Claim}
use Rattle.dp_model.specs.declared.answers.Found.{Found}
use Rattle.dp_model.specs.declared.answers.Options.{Options}
use Rattle.dp_model.specs.declared.whole.Model.{Model}
use Rattle.dp_outside.specs.Outside.{Takes, TakesFront}
use Rattle.run_ends.specs.Claims.{claim_with}
use Rattle.run_ends.specs.Statuses.{verdict_status}
use Rattle.run_ends.specs.declared.solved.Solved.{Solved}
use Rattle.run_ends.specs.declared.status.Status.{Status}
use Rattle.run_ends.specs.declared.status.Status.TheVariants as statuses
use Rattle.solve_best.specs.Counted.{IsCounted}
use Rattle.solve_report.specs.Lines.{searched_line, solution_text, verdict_text}

-- ---- its text

abbrev pub found_text : Model → Option Found → List ℕ
found_text m None = []
found_text m (Some s) = solution_text m s

abbrev pub searched_text : Option ℕ → List ℕ
searched_text None = []
searched_text (Some visited) = searched_line visited

-- the solution, and how many nodes were visited
abbrev pub front_text : Model → Option Found → Option ℕ → List ℕ
front_text m found visited = found_text m found ++ searched_text visited

abbrev pub ending_text : Model → BestEnding → List ℕ
ending_text m (Ended v) = verdict_text m v
ending_text m OutOfMemory = line (codes "memory")

abbrev pub run_text : Model → BestRun → List ℕ
run_text m r = front_text m r.found r.visited ++ ending_text m r.ending

-- ---- its status, and what it claims of all legal lists

abbrev pub ending_status : BestEnding → Status
ending_status (Ended v) = verdict_status v
ending_status OutOfMemory = statuses.Memory

-- the printed solution after `optimal`, and after `infeasible` that there is none
abbrev pub claim_of : BestRun → Option Claim
claim_of r = claim_with (ending_status r.ending) r.found

-- ---- what was printed

-- the run's text was taken, and its status and its claim are answered; or a write failed, and nothing is claimed
abbrev pub IsPrinted : Model → BestRun → (before after : Option (List ℕ)) → Solved → Type 0
IsPrinted m run before after solved =
    ((solved.status ≡ ending_status run.ending) × Takes before after (run_text m run) × (solved.claim ≡ claim_of run))
    ⊎ ((solved.status ≡ statuses.WriteFault) × TakesFront before after (run_text m run) × (solved.claim ≡ None))

-- A run that is right was printed, and what it claims is answered; or a write failed, a front of it was printed, and nothing is
-- claimed.
pub record Concluded (m : Model) (options : Options) (before after : Option (List ℕ)) (solved : Solved) : Type 0 where
  pub run : BestRun
  pub right : RightBest m options run
  pub counted : IsCounted m options run
  pub word : KeepsWordBest m options run.ending
  pub printed : IsPrinted m run before after solved
