-- What stands behind the verdict of a search for which a certificate is asked.
use Rattle.std.specs.Prelude.{◌≡◌, ℕ, ◌+◌, ◌⊎◌, Bool, true, false, List, [], ◌++◌, slice_get, Option, Some, None, codes}
use Rattle.std.specs.Option.{is_some}
use Rattle.dp_outside.specs.Outside.{Takes, TakesFront}
use Rattle.dp_base.specs.Bytes.{line}
use Rattle.dp_model.specs.declared.answers.Claim.{Claim}
use Rattle.dp_model.specs.declared.answers.Options.{Options}
use Rattle.dp_model.specs.declared.answers.Written.{Written}
use Rattle.dp_model.specs.declared.answers.Written.TheVariants as writtens
use Rattle.dp_model.specs.declared.whole.Model.{Model}
use Rattle.dp_steps.specs.Faults.{Meets}
use Rattle.dp_steps.specs.Lists.{Solution}
use Rattle.dp_claims.specs.Enough.{IsAtMostReached}
use Rattle.cert_types.specs.Parts.{parts_of}
use Rattle.cert_types.specs.declared.cert.Cert.{Cert}
use Rattle.cert_types.specs.declared.nodes.CertNode.{CertNode}
use Rattle.cert_text.specs.Texts.{text_of, text_of_lines}
use Rattle.cert_making.specs.Written.{AreLayers, IsBetterThan, IsMade, open_lines}
use Rattle.run_ends.specs.declared.solved.Solved.{Solved}
use Rattle.run_ends.specs.declared.status.Status.{Status}
use Rattle.run_ends.specs.declared.status.Status.TheVariants as statuses
use Rattle.solve_report.specs.Lines.{written_text}
use Rattle.best_ledger.specs.Right.{BestRun, KeepsWordBest, RightBest}
use Rattle.command_line.specs.declared.jobs.Engine.{Engine}
use Rattle.command_line.specs.declared.jobs.Engine.TheVariants as engines
use Rattle.solve_best.specs.Counted as bests
use Rattle.solve_best.specs.Texts.{run_text}
use Rattle.solve_best.specs.Texts as best
use Rattle.solve_passes.specs.Counted.{IsCounted}
use Rattle.solve_passes.specs.Records.{Pass, Record, Right, KeepsWord, claim_of, ending_status, record_text}
use Rattle.solve_passes.specs.declared.progress.Printing.TheVariants.{All}
use Rattle.solve_top.specs.Jobs.{keeping_all}

pub data Behind : Type 0 where
  -- nothing
  Nothing : Behind
  -- a certificate
  Whole : (cert : Cert) → Behind
  -- the lines of one, up to the end of a layer, and why it ends there
  Begun : (claim : Claim) (layers : List (List CertNode)) (why : Written) → Behind
  -- the same, where memory ran out
  OutOfRoom : (claim : Claim) (layers : List (List CertNode)) → Behind
  -- memory ran out before the first line
  NoRoom : Behind

abbrev pub behind_text : Model → Options → Behind → List ℕ
behind_text m options Nothing = []
behind_text m options (Whole cert) = text_of m (parts_of cert)
behind_text m options (Begun claim layers why) = text_of_lines (open_lines m options claim layers) ++ written_text m why
behind_text m options (OutOfRoom claim layers) = text_of_lines (open_lines m options claim layers) ++ line (codes "memory")
behind_text m options NoRoom = line (codes "memory")

-- the status of a run, where its verdict has this one
abbrev pub behind_status : Status → Behind → Status
behind_status status Nothing = status
behind_status status (Whole cert) = status
behind_status status (Begun claim layers why) = status
behind_status status (OutOfRoom claim layers) = statuses.Memory
behind_status status NoRoom = statuses.Memory

-- A text was taken and what stands behind it, with the status; or a write failed, before the last byte was taken. One that failed
-- in the midst of a certificate leaves a front of whole lines with `memory` behind them, or of a certificate that shows the claim.
abbrev pub Prints : (before after : Option (List ℕ)) → (front : List ℕ) → Model → Options → Behind → (wanted status : Status) → Type 0
Prints before after front m options behind wanted status =
    ((status ≡ behind_status wanted behind) × Takes before after (front ++ behind_text m options behind))
    ⊎ ((status ≡ statuses.WriteFault) × TakesFront before after (front ++ behind_text m options behind))

-- Why a certificate ends before it is whole: its visits reached the budget, and one more can be reached; a better solution; a fault
-- that a list meets.
abbrev pub RightCause : Model → Options → Claim → Written → Type 0
RightCause m options claim writtens.Whole = ⊥
RightCause m options claim (writtens.Stopped visits) = (visits ≡ options.budget) × IsAtMostReached m options.keep (visits + 1)
RightCause m options claim (writtens.Better found) = Solution m found.steps found.cost × IsBetterThan m claim found.cost
RightCause m options claim (writtens.Fault fault) = Meets m options.prune fault.steps fault.spot fault.kind

-- what may stand behind a verdict that claims this
abbrev pub RightBehind : Model → Options → Claim → Behind → Type 0
RightBehind m options claim Nothing = ⊥
RightBehind m options claim (Whole cert) = IsMade m options claim cert
RightBehind m options claim (Begun told layers why) = (told ≡ claim) × AreLayers m layers × RightCause m options claim why
RightBehind m options claim (OutOfRoom told layers) = (told ≡ claim) × AreLayers m layers
RightBehind m options claim NoRoom = Unit {0}

-- A certificate is asked for or not, and a search claims something or nothing: only where both are so something stands behind.
abbrev pub IsBehind : (certificate : Bool) → Model → Options → (claimed : Option Claim) → Behind → Type 0
IsBehind false m options claimed behind = behind ≡ Nothing
IsBehind true m options None behind = behind ≡ Nothing
IsBehind true m options (Some claim) behind = RightBehind m options claim behind

-- a text that ends with a verdict was taken, with this status, and what it claims is answered; or a write failed, and nothing is claimed
abbrev pub WasPrinted : (before after : Option (List ℕ)) → (text : List ℕ) → (claimed : Option Claim) → (wanted : Status) → Solved → Type 0
WasPrinted before after text claimed wanted solved =
    ((solved.status ≡ wanted) × Takes before after text × (solved.claim ≡ claimed)) ⊎ ((solved.status ≡ statuses.WriteFault) × TakesFront before after text × (solved.claim ≡ None))

-- what was written behind a text, whose verdict has this status and claims so much: it may stand there; or a write failed, after a
-- front of both
abbrev pub Follows : (certificate : Bool) → Model → Options → (before after : Option (List ℕ)) → (front : List ℕ) → (claimed : Option Claim) → (wanted status : Status) → Type 0
Follows certificate m options before after front claimed wanted status =
    (behind : Behind) × IsBehind certificate m options claimed behind × Prints before after front m options behind wanted status

-- what was written behind a verdict of this status: it may stand there; or a write failed, after a front of it
abbrev pub WritesBehind : Model → Options → Claim → (status : Status) → (before after : Option (List ℕ)) → (result : Status) → Type 0
WritesBehind m options claim status before after result = (behind : Behind) × RightBehind m options claim behind × Prints before after [] m options behind status result

-- each pass tells which costs it announced exactly where they are asked for
abbrev pub IsAnnounced : (announce : Bool) → Record → Type 0
IsAnnounced announce run = (k : ℕ) (p : Pass) → slice_get run.passes k ≡ Some p → is_some p.announced ≡ announce

-- A right record of passes that keeps its word, and counts what their shards did, was printed, and behind it what may stand there; or a
-- write failed, after a front of both.
pub record Solves (m : Model) (options : Options) (gap announce certificate : Bool) (before after : Option (List ℕ)) (status : Status) : Type 0 where
  pub run : Record
  pub right : Right m options gap run
  pub announcing : IsAnnounced announce run
  pub counted : IsCounted m options run
  pub word : KeepsWord m options run.bound run.ending
  pub follows : Follows certificate m options before after (record_text (All announce) m run) (claim_of run) (ending_status run.ending) status

-- The same of a search of the best node first, whose visits are those of a ledger. Its certificate is written as if nodes kept in
-- earlier layers covered.
pub record SolvesBest (m : Model) (options : Options) (certificate : Bool) (before after : Option (List ℕ)) (status : Status) : Type 0 where
  pub run : BestRun
  pub right : RightBest m options run
  pub counted : bests.IsCounted m options run
  pub word : KeepsWordBest m options run.ending
  pub follows : Follows certificate m (keeping_all options) before after (run_text m run) (best.claim_of run) (best.ending_status run.ending) status

abbrev pub SolvesBy : Engine → Model → Options → (gap announce certificate : Bool) → (before after : Option (List ℕ)) → Status → Type 0
SolvesBy engines.Beam m options gap announce certificate before after status = Solves m options gap announce certificate before after status
SolvesBy engines.Best m options gap announce certificate before after status = SolvesBest m options certificate before after status
