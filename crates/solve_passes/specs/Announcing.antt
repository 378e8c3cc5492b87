-- What a pass announces in a run.
use Rattle.std.specs.Prelude.{◌≡◌, ℕ, ◌≤◌, Bool, true, false, List, [], length, Option, Some, None, is_some, IfSome, option_map, ℤ, pos}
use Rattle.announce_laws.specs.Last.{Improving, word_or_none}
use Rattle.board_words.specs.Rules.{IsWhole}
use Rattle.board_words.specs.Seats.{BoardFacts, SeatFacts, IsSeatOf}
use Rattle.board_words.specs.Steps.{best_known}
use Rattle.dp_claims.specs.Enough.{Has}
use Rattle.dp_model.specs.declared.answers.Options.{Options}
use Rattle.dp_model.specs.declared.whole.Model.{Model}
use Rattle.dp_outside.specs.Outside.{Rose, Takes, TakesFront}
use Rattle.dp_steps.specs.Lists.{Solution}
use Rattle.dp_steps.specs.States.{Inner}
use Rattle.pass_ends.specs.Ends.{IsPassEnd}
use Rattle.pass_ends.specs.Passes.{AreOptions, pass_of}
use Rattle.pass_ends.specs.declared.answers.PassEnd.{PassEnd}
use Rattle.pass_over.specs.Announcements.{HasRefused, RanOut, last_or}
use Rattle.solve_passes.specs.Counted.{IsWord}
use Rattle.solve_passes.specs.Ongoing.{IsOngoing, announces, held_cost}
use Rattle.solve_passes.specs.Records.{Announced, announced_lines, costs_in}
use Rattle.solve_passes.specs.declared.made.Made.{Made}
use Rattle.solve_passes.specs.declared.progress.Counts.{Counts}
use Rattle.solve_passes.specs.declared.progress.Printing.{Printing}
use Rattle.solve_passes.specs.declared.progress.Progress.{Progress}

-- what is counted of announced costs
abbrev pub counts_of : Option Announced → Option Counts
counts_of None = None
counts_of (Some a) = Some (record { announced = length a.costs; refused = a.refused })

-- What a pass may announce after this last cost: costs of legal lists, each strictly better than the one before. The calls that found
-- no room are counted by a number of 64 bits.
pub record MayAnnounce (m : Model) (printing : Printing) (last : Option ℤ) (announced : Option Announced) : Type 0 where
  pub on : is_some announced ≡ announces printing
  pub legal : (c : ℤ) → Has (costs_in announced) c → (steps : List ℕ) × Solution m steps c
  pub improving : Improving m.minimize last (costs_in announced)
  pub few_refused : IfSome announced (λ a. IsWord a.refused)

-- where the last cost had the best word before a pass for which memory sufficed, the last one after it has the best word after it
abbrev pub TellsLast : Model → Printing → (last : Option ℤ) → (best_before best_after : ℕ) → PassEnd → Option Announced → Type 0
TellsLast m printing last best_before best_after end announced =
    (RanOut end → ⊥) → announces printing ≡ true → pos best_before ≡ word_or_none m last → pos best_after ≡ word_or_none m (last_or last (costs_in announced))

-- A pass announced this, or a write failed.
pub record IsMade (m : Model) (printing : Printing) (last : Option ℤ) (best_before best_after : ℕ) (before after : Option (List ℕ)) (faults_before faults_after : ℕ) (made : Made) : Type 0 where
  pub announced : Option Announced
  pub may : MayAnnounce m printing last announced
  pub refused_is : option_map (λ (a : Announced). a.refused) announced ≡ option_map (λ (c : Counts). c.refused) made.counts
  pub written : made.failed ≡ false → Takes before after (announced_lines announced) × (made.counts ≡ counts_of announced)
  pub stopped : made.failed ≡ true → TakesFront before after (announced_lines announced) × Rose faults_before faults_after
  pub count : faults_before ≤ faults_after
  pub last_word : made.failed ≡ false → TellsLast m printing last best_before best_after made.end announced

-- ---- the next pass of a run

-- A run that has come so far made a pass, which ended so and announced this, between the seats before and after it.
pub record IsNextMade (m : Model) (options : Options) (board : BoardFacts) (printing : Printing) (progress : Progress) (was now : SeatFacts) (before after : Option (List ℕ)) (faults_before faults_after : ℕ) (made : Made) : Type 0 where
  pub inner : Inner m m.target
  pub options_fit : AreOptions options
  pub ongoing : IsOngoing m options board progress was
  pub on_board : IsSeatOf board now
  pub whole : IsWhole now.view
  pub answer : (some : 1 ≤ options.workers) → IsPassEnd (pass_of m options progress.schedule.share some) was.view now.view made.end
  pub refused : (some : 1 ≤ options.workers) → IfSome made.counts (λ c. HasRefused (pass_of m options progress.schedule.share some) c.refused)
  pub announced : IsMade m printing (held_cost progress.held) (best_known was.view) (best_known now.view) before after faults_before faults_after made
