-- The same of runs of the best node first.
use Rattle.std.specs.Prelude.{◌≡◌, ℕ, ◌^◌, ◌<◌, List, [], ◌∷◌, ◌++◌, length, Option, Some, None}
use Rattle.std.specs.Str.Lines.{lines}
use Rattle.best_ledger.specs.Right.{BestEnding, BestRun, Ended, OutOfMemory, RightBest}
use Rattle.dp_model.specs.declared.answers.Options.{Options}
use Rattle.dp_model.specs.declared.answers.Verdict.TheVariants as verdicts
use Rattle.dp_model.specs.declared.whole.Model.{Model}
use Rattle.solve_report.specs.Lines.{spot_text}
use Rattle.cert_text.specs.ReadBack.{HasStepTexts}
use Rattle.command_line.specs.declared.jobs.Search.{Search}
use Rattle.kept_model.specs.declared.kept.Kept.{Kept}
use Rattle.pass_ends.specs.Passes.{AreOptions}
use Rattle.solve_best.specs.Texts.{run_text}
use Rattle.solve_top.specs.Behind.{Behind}
use Rattle.solve_top.specs.Outcomes.{ComesOf, SolvingBest}
use Rattle.text_laws.specs.Entries.{Entry, MemoryLine, SearchLine, entries_in}
use Rattle.text_laws.specs.Records.{HasLineNames, alone, found_entries, verdict_entries}

abbrev pub searched_entries : Option ℕ → List Entry
searched_entries None = []
searched_entries (Some visited) = alone (SearchLine visited) ∷ []

abbrev pub ending_entries : Model → BestEnding → List Entry
ending_entries m (Ended verdict) = verdict_entries m verdict
ending_entries m OutOfMemory = alone MemoryLine ∷ []

abbrev pub entries_of : Model → BestRun → List Entry
entries_of m r = found_entries r.found ++ (searched_entries r.visited ++ ending_entries m r.ending)

-- A run of a search: it is right for options that the program takes. Its text has fewer than 2^64 bytes.
pub record IsRunOf (m : Model) (r : BestRun) : Type 0 where
  pub options : Options
  pub fit : AreOptions options
  pub right : RightBest m options r
  pub short : length (run_text m r) < 2 ^ 64

-- So is the run of each search that words ask for.
abbrev pub LawRunOf : Type 0
LawRunOf =
    (words : List (List ℕ)) (files : List ℕ → Option (List ℕ)) (m : Model) (proved : Option Kept) (searched : Model) (search : Search) (r : BestRun) (behind : Behind) → ComesOf words files (SolvingBest m proved searched search r behind)
    → length (run_text searched r) < 2 ^ 64 → IsRunOf searched r

-- A run of a search is read back from its text.
abbrev pub LawReadRun : Type 0
LawReadRun =
    (m : Model) → HasStepTexts m → HasLineNames m → (r : BestRun) → IsRunOf m r
    → entries_in m (lines (run_text m r)) ≡ Some (entries_of m r)

-- the same ending, but of a fault's spot the same text
abbrev pub EndAlike : Model → BestEnding → BestEnding → Type 0
EndAlike m (Ended (verdicts.Fault f)) (Ended (verdicts.Fault g)) = (f.kind ≡ g.kind) × (spot_text m f.spot ≡ spot_text m g.spot) × (f.steps ≡ g.steps)
EndAlike m e f = e ≡ f

pub record AreAlike (m : Model) (a b : BestRun) : Type 0 where
  pub found : a.found ≡ b.found
  pub visited : a.visited ≡ b.visited
  pub ending : EndAlike m a.ending b.ending

-- Two runs of searches that are printed as the same text are the same, but of a fault's spot it is the text that is the same.
abbrev pub LawRunsToldApart : Type 0
LawRunsToldApart =
    (m : Model) → HasStepTexts m → HasLineNames m → (a b : BestRun) → IsRunOf m a → IsRunOf m b
    → run_text m a ≡ run_text m b → AreAlike m a b
