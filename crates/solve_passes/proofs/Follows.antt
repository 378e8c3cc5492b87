-- A pass that was made is the next one of its run.
use Rattle.std.proofs.Common.{◌≡◌, ℕ, ◌≤◌, List, Option, ℤ, subst}
use Rattle.std.specs.Prelude.{IfSome}
use Rattle.board_words.specs.Rules.{IsWhole}
use Rattle.board_words.specs.Seats.{BoardFacts, SeatFacts, IsSeatOf}
use Rattle.board_words.specs.Steps.{best_known}
use Rattle.dp_model.specs.declared.answers.Options.{Options}
use Rattle.dp_model.specs.declared.whole.Model.{Model}
use Rattle.dp_steps.specs.States.{Inner}
use Rattle.pass_ends.specs.Ends.{IsPassEnd}
use Rattle.pass_ends.specs.Passes.{AreOptions, pass_of}
use Rattle.pass_over.specs.Announcements.{HasRefused}
use Rattle.solve_passes.proofs.Announces.{calls_told}
use Rattle.solve_passes.specs.Announcing.{IsMade, IsNextMade}
use Rattle.solve_passes.specs.Ongoing.{IsOngoing, held_cost}
use Rattle.solve_passes.specs.declared.made.Made.{Made}
use Rattle.solve_passes.specs.declared.progress.Printing.{Printing}
use Rattle.solve_passes.specs.declared.progress.Progress.{Progress}

module _ (m : Model) (options : Options) (board : BoardFacts) (printing : Printing) (progress : Progress) (was now : SeatFacts) (before after : Option (List ℕ)) (faults faults_after : ℕ) (made : Made) where
  -- the last cost before it is that of the solution that is held
  pub next_made : Inner m m.target → AreOptions options → IsOngoing m options board progress was → IsSeatOf board now → IsWhole now.view → ((some : 1 ≤ options.workers) → IsPassEnd (pass_of m options progress.schedule.share some) was.view now.view made.end)
      → ((some : 1 ≤ options.workers) → IfSome made.counts (λ c. HasRefused (pass_of m options progress.schedule.share some) c.refused))
      → (last : Option ℤ) → last ≡ held_cost progress.held → IsMade m printing last (best_known was.view) (best_known now.view) before after faults faults_after made → IsNextMade m options board printing progress was now before after faults faults_after made
  next_made inner fit ongoing on whole answer refused last same announced = record {
    inner = inner;
    options_fit = fit;
    ongoing = ongoing;
    on_board = on;
    whole = whole;
    answer = answer;
    refused = refused;
    announced = subst (λ (o : Option ℤ). IsMade m printing o (best_known was.view) (best_known now.view) before after faults faults_after made) same announced;
  }

  -- what is known of the calls that found no room
  pub calls_of : (n : IsNextMade m options board printing progress was now before after faults faults_after made) → (some : 1 ≤ options.workers) → IfSome n.announced.announced (λ a. HasRefused (pass_of m options progress.schedule.share some) a.refused)
  calls_of n some = calls_told (HasRefused (pass_of m options progress.schedule.share some)) n.announced.announced made.counts n.announced.refused_is (n.refused some)
