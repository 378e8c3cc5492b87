-- What a run has printed so far, how far it has come, and what it came to.
use Rattle.std.specs.Prelude.{◌≡◌, ℕ, ◌+◌, ◌*◌, ◌^◌, ◌<◌, ◌≤◌, ◌⊎◌, Bool, true, false, List, [], ◌∷◌, ◌++◌, length, slice_get, Option, Some, None, is_some, IfSome, ℤ, pos, ◌≤ℤ◌}
use Rattle.std.specs.List.{flat_map, AllByRecursion}
use Rattle.std.specs.Option.{option_map, option_to_list}
use Rattle.dp_model.specs.declared.answers.Keep.{Keep}
use Rattle.announce_laws.specs.Last.{Improving as ImprovingCosts}
use Rattle.board_words.specs.Rules.{no_word, IsWhole}
use Rattle.board_words.specs.Seats.{BoardFacts, SeatFacts, IsSeatOf}
use Rattle.board_words.specs.Steps.{best_known}
use Rattle.cost_laws.specs.Orders.{InWideRange}
use Rattle.dp_claims.specs.Enough.{Has, AreReachedAtMost, IsAtMostReached, IsWidthAtMost}
use Rattle.dp_model.specs.Costs.{IsBetter, order_word}
use Rattle.dp_model.specs.declared.answers.Cause.{Cause}
use Rattle.dp_model.specs.declared.answers.Cause.TheVariants as causes
use Rattle.dp_model.specs.declared.answers.Found.{Found}
use Rattle.dp_model.specs.declared.answers.Options.{Options}
use Rattle.dp_model.specs.declared.answers.Verdict.{Verdict}
use Rattle.dp_model.specs.declared.answers.Verdict.TheVariants as verdicts
use Rattle.dp_model.specs.declared.whole.Model.{Model}
use Rattle.dp_outside.specs.Outside.{Takes, TakesFront}
use Rattle.dp_steps.specs.Lists.{Solution}
use Rattle.gap_laws.specs.Gaps.{IsRunBound}
use Rattle.pass_ends.specs.declared.answers.PassEnd.{PassEnd}
use Rattle.pass_ends.specs.declared.answers.PassEnd.TheVariants as ends
use Rattle.pass_over.specs.Announcements.{last_or}
use Rattle.solve_passes.specs.Records.{Announced, Pass, Ending, Ended, OutOfMemory, Record, NumberedFrom, Improving, Right, KeepsWord, TellsBest, announced_costs, claim_of, costs, last_solution, visits, bound_text, found_text, passes_text, ending_text, record_text, ending_status}
use Rattle.solve_passes.specs.Counted.{CountsClosed, CountsRefused, HasWords, IsCounted}
use Rattle.solve_passes.specs.declared.progress.Counts.{Counts}
use Rattle.solve_passes.specs.declared.progress.Printing.{Printing}
use Rattle.solve_passes.specs.declared.progress.Printing.TheVariants.{All, VerdictAlone}
use Rattle.solve_passes.specs.declared.progress.Progress.{Progress}
use Rattle.solve_passes.specs.declared.progress.Tally.{Tally}
use Rattle.solve_report.specs.Lines.{announced_line, pass_line}
use Rattle.run_ends.specs.declared.solved.Solved.{Solved}
use Rattle.run_ends.specs.declared.status.Status.{Status}
use Rattle.run_ends.specs.declared.status.Status.TheVariants as statuses
use Rattle.width_loop.specs.Gaps.{bound_after}
use Rattle.width_loop.specs.declared.gap.GapSummary.{GapSummary}

-- ---- what is printed and held

-- whether costs are announced
abbrev pub announces : Printing → Bool
announces (All announce) = announce
announces VerdictAlone = false

-- the cost of the solution that is held
abbrev pub held_cost : Option Found → Option ℤ
held_cost held = option_map (λ (f : Found). f.cost) held

-- ---- the passes so far

-- the solutions of the passes, in order
abbrev pub solutions_of : List Pass → List Found
solutions_of ps = flat_map (λ (p : Pass). option_to_list p.found) ps

-- The passes so far. The last solution that was found is held.
pub record Passes (m : Model) (keep : Keep) (held : Option Found) (count visited : ℕ) (ps : List Pass) : Type 0 where
  pub counted : length ps ≡ count
  pub numbered : NumberedFrom 1 ps
  pub spent : visits ps ≡ visited
  pub reached : AllByRecursion (λ (p : Pass). IsAtMostReached m keep p.visited) ps
  pub legal : AllByRecursion (λ (f : Found). Solution m f.steps f.cost) (solutions_of ps)
  pub improving : Improving m.minimize (solutions_of ps)
  pub last : last_solution (solutions_of ps) ≡ held

-- the bound that so many passes with these solutions have proved, where the gap is asked for
abbrev pub IsBoundOf : Model → Options → (gap : Bool) → (count : ℕ) → List Found → Option ℤ → Type 0
IsBoundOf m options true count found bound = IsRunBound m options.prune options.keep count (costs found) bound
IsBoundOf m options false count found bound = bound ≡ None

-- Whatever the passes announced are costs of legal lists, each strictly better than the one before. Where they announce, the last
-- one is that of the solution that is held.
pub record AreAnnounced (m : Model) (printing : Printing) (held : Option Found) (ps : List Pass) : Type 0 where
  pub each : (k : ℕ) (p : Pass) → slice_get ps k ≡ Some p → (is_some p.announced ≡ announces printing) × TellsBest p
  pub legal : (c : ℤ) → Has (announced_costs ps) c → (steps : List ℕ) × Solution m steps c
  pub improving : ImprovingCosts m.minimize None (announced_costs ps)
  pub last : announces printing ≡ true → last_or None (announced_costs ps) ≡ held_cost held

-- the sink took the text of the passes so far, each of which was closed and dropped a node
pub record History (m : Model) (options : Options) (gap : Bool) (printing : Printing) (before after : Option (List ℕ)) (held : Option Found) (count visited : ℕ) (bound : Option ℤ) : Type 0 where
  pub passes : List Pass
  pub told : Takes before after (passes_text printing m passes)
  pub known : Passes m options.keep held count visited passes
  pub dropping : AllByRecursion (λ (p : Pass). 0 < p.dropped) passes
  pub proved : IsBoundOf m options gap count (solutions_of passes) bound
  pub announced : AreAnnounced m printing held passes
  pub counts : (k : ℕ) (p : Pass) → slice_get passes k ≡ Some p → CountsClosed m options p × CountsRefused m options p × HasWords p

abbrev pub HistoryOf : Model → Options → (gap : Bool) → Printing → Option (List ℕ) → Option (List ℕ) → Progress → Type 0
HistoryOf m options gap printing before after progress = History m options gap printing before after progress.held progress.passes progress.visited progress.bound

-- ---- how far a run has come

-- the best word is that of the solution that is held, or that of no solution
abbrev pub IsWordOf : Model → ℕ → Option Found → Type 0
IsWordOf m best None = best ≡ no_word
IsWordOf m best (Some f) = pos best ≡ order_word m.minimize m.join (Some f.cost)

-- the cost of a solution has an order word
abbrev pub HasWord : Option Found → Type 0
HasWord held = IfSome held (λ f. InWideRange f.cost)

-- The shares doubled from 1 on. The whole seat drew as many numbers as there were visits, none of them late, and raised no halt;
-- each pass drew no more than can be reached, and dropped nodes, so that its share was less than the width.
pub record IsOngoing (m : Model) (options : Options) (board : BoardFacts) (progress : Progress) (seat : SeatFacts) : Type 0 where
  pub share : progress.schedule.share ≡ 2 ^ progress.passes
  pub few_passes : progress.passes ≤ 56
  pub on_board : IsSeatOf board seat
  pub limit : board.limit ≡ options.budget
  pub whole : IsWhole seat.view
  pub no_halt : seat.view.raised ≡ 0
  pub drawn : seat.view.drawn ≡ progress.visited
  pub within : progress.visited ≤ options.budget
  pub best : IsWordOf m (best_known seat.view) progress.held
  pub has_word : HasWord progress.held
  pub wide_bound : IfSome progress.bound InWideRange
  pub few_drawn : (r : ℕ) → AreReachedAtMost m options.keep r → progress.visited ≤ progress.passes * r
  pub narrow : (w : ℕ) → IsWidthAtMost m options.keep w → 0 < progress.passes → 2 ^ progress.passes < 2 * w

-- ---- one more pass

-- the pass that was made, as it is printed
abbrev pub pass_of : Progress → Option Announced → Option Found → ℕ → ℕ → Pass
pass_of progress announced found visited dropped = record { announced = announced; found = found; number = progress.passes + 1; share = progress.schedule.share; visited = visited; dropped = dropped }

-- its text, but for the announced costs
abbrev pub counts_line : Option Counts → List ℕ
counts_line None = []
counts_line (Some c) = announced_line c.announced c.refused

abbrev pub counts_text : Printing → Option Counts → List ℕ
counts_text (All announce) counts = counts_line counts
counts_text VerdictAlone counts = []

abbrev pub pass_line_text : Printing → Progress → ℕ → ℕ → List ℕ
pass_line_text (All announce) progress visited dropped = pass_line (progress.passes + 1) progress.schedule.share visited dropped
pass_line_text VerdictAlone progress visited dropped = []

abbrev pub rest_text : Printing → Model → Progress → Option Counts → Option Found → ℕ → ℕ → List ℕ
rest_text printing m progress counts found visited dropped = found_text printing m found ++ (counts_text printing counts ++ pass_line_text printing progress visited dropped)

-- the solution that is held after a pass
abbrev pub held_after : Option Found → Option Found → Option Found
held_after held None = held
held_after held (Some f) = Some f

-- the progress after a pass, before the share is doubled
abbrev pub progress_after : Progress → Option Found → ℕ → Progress
progress_after progress found visited =
    record { passes = progress.passes + 1; schedule = progress.schedule; visited = progress.visited + visited; held = held_after progress.held found; bound = progress.bound }

-- the best solution of a pass, where it is strictly better than what is held
abbrev pub IsImproved : Model → (held best found : Option Found) → Type 0
IsImproved m held best None = IfSome best (λ f. (h : Found) × (held ≡ Some h) × (IsBetter m.minimize f.cost h.cost → ⊥))
IsImproved m held best (Some f) = (best ≡ Some f) × IfSome held (λ h. IsBetter m.minimize f.cost h.cost)

-- ---- what follows a pass

-- floors are looked at where the gap is asked for
abbrev pub floor_for : (gap : Bool) → Option ℤ → Option ℤ
floor_for true floor = floor
floor_for false floor = None

-- what the shards of a pass did, and why it was halted, if it was
abbrev pub tally_in : (gap : Bool) → PassEnd → Tally
tally_in gap (ends.Closed visited dropped floor best) = record { visited = visited; dropped = dropped; least_floor = floor_for gap floor; best = best }
tally_in gap (ends.Halted cause visited dropped best) = record { visited = visited; dropped = dropped; least_floor = None; best = best }

abbrev pub halt_in : PassEnd → Option Cause
halt_in (ends.Closed visited dropped floor best) = None
halt_in (ends.Halted cause visited dropped best) = Some cause

-- a closed pass, as the schedule sees it
abbrev pub summary_of : (dropped : ℕ) → (floor : Option ℤ) → (held : Option Found) → GapSummary
summary_of dropped floor held = record { dropped = dropped; least_floor = floor; best = held_cost held }

-- the progress before the next pass, after one that dropped so many nodes with this best floor
abbrev pub going_on : Model → (dropped : ℕ) → (floor : Option ℤ) → Progress → Progress
going_on m dropped floor progress =
    record progress { schedule = record { share = progress.schedule.share * 2 }; bound = bound_after m.minimize progress.bound (summary_of dropped floor progress.held) }

-- the solution that is held is no worse than the best floor of the dropped nodes
abbrev pub MeetsFloor : Model → (floor : Option ℤ) → (held : Option Found) → Type 0
MeetsFloor m None held = ⊥
MeetsFloor m (Some floor) None = ⊥
MeetsFloor m (Some floor) (Some f) = order_word m.minimize m.join (Some f.cost) ≤ℤ order_word m.minimize m.join (Some floor)

-- no list that was lost is better than what is held: no node was dropped, or what is held meets the floors of the dropped nodes
abbrev pub LosesNothing : Model → (dropped : ℕ) → (floor : Option ℤ) → (held : Option Found) → Type 0
LosesNothing m dropped floor held = (dropped ≡ 0) ⊎ ((0 < dropped) × MeetsFloor m floor held)

-- the verdict of a search that lost nothing
abbrev pub verdict_of : Option Found → Verdict
verdict_of None = verdicts.Infeasible
verdict_of (Some f) = verdicts.Optimal f.cost

-- how a run of so many visits ends that was halted
abbrev pub halt_ending : ℕ → Cause → Ending
halt_ending visited causes.Budget = Ended (verdicts.Stopped visited)
halt_ending visited (causes.Fault fault) = Ended (verdicts.Fault fault)
halt_ending visited causes.Memory = OutOfMemory

-- the bound that is printed: where the budget is spent
abbrev pub printed_bound : (halt : Option Cause) → Option ℤ → Option ℤ
printed_bound None bound = None
printed_bound (Some causes.Budget) bound = bound
printed_bound (Some (causes.Fault fault)) bound = None
printed_bound (Some causes.Memory) bound = None

-- a run goes on after a pass that was closed and dropped nodes
abbrev pub GoesOn : Tally → (halt : Option Cause) → Type 0
GoesOn tally None = 0 < tally.dropped
GoesOn tally (Some cause) = ⊥

-- a run that has come so far ends so after a pass that was halted, or closed and lost nothing
abbrev pub IsLast : Model → Tally → (halt : Option Cause) → Progress → Ending → Type 0
IsLast m tally None progress ending = LosesNothing m tally.dropped tally.least_floor progress.held × (ending ≡ Ended (verdict_of progress.held))
IsLast m tally (Some cause) progress ending = ending ≡ halt_ending progress.visited cause

-- the text of an ending was printed, behind that of a bound, or a write failed, and a front of both was
abbrev pub IsTold : Printing → Model → (before after : Option (List ℕ)) → Status → (bound : Option ℤ) → Ending → Type 0
IsTold printing m before after status bound ending =
    ((status ≡ ending_status ending) × Takes before after (bound_text bound printing ++ ending_text m ending))
    ⊎ ((status ≡ statuses.WriteFault) × TakesFront before after (bound_text bound printing ++ ending_text m ending))

-- the printed lines of a pass, with what it announced and the better solution that it found
abbrev pub lines_of : Printing → Model → Progress → Option Announced → Tally → (found : Option Found) → List ℕ
lines_of printing m progress announced tally found = passes_text printing m (pass_of progress announced found tally.visited tally.dropped ∷ [])

-- What follows a pass: these lines are printed, and then the run goes on, or it ends and this is printed too. Or a write failed.
abbrev pub IsFollowed : (lines : List ℕ) → Printing → Model → (before after : Option (List ℕ)) → (old new : Progress) → Tally → (halt : Option Cause) → (found : Option Found) → Option Status → Type 0
IsFollowed lines printing m before after old new tally halt found None =
    GoesOn tally halt × (new ≡ going_on m tally.dropped tally.least_floor (progress_after old found tally.visited)) × Takes before after lines
IsFollowed lines printing m before after old new tally halt found (Some status) =
    ((mid : Option (List ℕ)) × (ending : Ending) × Takes before mid lines × IsLast m tally halt (progress_after old found tally.visited) ending
    × IsTold printing m mid after status (printed_bound halt old.bound) ending × (new.held ≡ held_after old.held found))
    ⊎ ((status ≡ statuses.WriteFault) × TakesFront before after lines)

-- ---- the end

-- A record that is right was printed, whose passes announce exactly where costs are printed and count what their shards did, and what it
-- claims is answered; or a write failed, a front of it was printed, and nothing is claimed.
pub record Concluded (m : Model) (options : Options) (gap : Bool) (printing : Printing) (before after : Option (List ℕ)) (solved : Solved) : Type 0 where
  pub run : Record
  pub right : Right m options gap run
  pub announcing : (k : ℕ) (p : Pass) → slice_get run.passes k ≡ Some p → is_some p.announced ≡ announces printing
  pub counted : IsCounted m options run
  pub word : KeepsWord m options run.bound run.ending
  pub printed : ((solved.status ≡ ending_status run.ending) × Takes before after (record_text printing m run) × (solved.claim ≡ claim_of run))
      ⊎ ((solved.status ≡ statuses.WriteFault) × TakesFront before after (record_text printing m run) × (solved.claim ≡ None))
