-- What a run came to after a pass, by what is known of the pass.
use Rattle.std.proofs.Common.{◌≡◌, ℕ, ◌+◌, ◌-◌, ◌*◌, ◌^◌, ◌<◌, ◌≤◌, List, [], ◌∷◌, ◌++◌, sym, ap, ◌∙◌, subst, Bool, Option, Some, None, inl, inr, refl, true, ℤ, pos, arith}
use Rattle.std.specs.Prelude.{IfNone, IfSome}
use Rattle.board_words.specs.Rules.{IsWhole}
use Rattle.board_words.specs.Seats.{BoardFacts, IsSeatOf, SeatFacts}
use Rattle.board_words.specs.Steps.{best_known}
use Rattle.board_words.specs.declared.seat.View.{View}
use Rattle.dp_claims.specs.Enough.{IsAtMostReached}
use Rattle.dp_model.specs.declared.answers.Cause.{Cause}
use Rattle.dp_model.specs.declared.answers.Cause.TheVariants as causes
use Rattle.dp_model.specs.declared.answers.Found.{Found}
use Rattle.dp_model.specs.declared.answers.Options.{Options}
use Rattle.dp_model.specs.declared.answers.Verdict.TheVariants as verdicts
use Rattle.dp_model.specs.declared.whole.Model.{Model}
use Rattle.dp_model.specs.Costs.{IsBetter}
use Rattle.dp_outside.specs.Outside.{Takes, TakesFront}
use Rattle.dp_steps.specs.States.{Inner}
use Rattle.gap_ends.proofs.Dropped.{gap_law}
use Rattle.cost_laws.specs.Orders.{InWideRange}
use Rattle.width_loop.specs.Gaps.{with_floor}
use Rattle.pass_ends.specs.Ends.{HasDrawn, IsClosed, IsLegal, IsLowered, IsPassEnd}
use Rattle.pass_ends.specs.Passes.{AreOptions}
use Rattle.pass_ends.specs.Passes as runs
use Rattle.pass_ends.specs.declared.answers.PassEnd.{PassEnd}
use Rattle.pass_ends.specs.declared.answers.PassEnd.TheVariants as ends
use Rattle.pass_ledger.proofs.Backwards.{law}
use Rattle.pass_ledger.specs.Ledgers.{NoneBelow}
use Rattle.pass_ledger.specs.Passes as ledgers
use Rattle.announce_laws.specs.Last.{word_or_none}
use Rattle.pass_over.specs.Announcements.{HasRefused, RanOut, last_or}
use Rattle.solve_passes.proofs.AfterPass.{led}
use Rattle.solve_passes.proofs.Announces.{last_held, tells_best}
use Rattle.solve_passes.proofs.Concluding.{all, failed_pass, grown, no_bound_before_memory, over, went_on}
use Rattle.run_ends.specs.Claims.{solved_by}
use Rattle.solve_passes.proofs.Counted.{had_memory, no_close, no_halt, was_spent, wide_printed}
use Rattle.solve_passes.proofs.Counting.{below_enough, more_drawn, pow_less, pow_next, pow_small, pow_some, reached_less}
use Rattle.solve_passes.proofs.Drops.{drops_none}
use Rattle.solve_passes.proofs.Gaps.{bound_more, costs_more, held_has, legal_word, met_floor, no_bound_before_verdict, proved_right, proved_word, stopped_bound, stopped_word, wide_after, wide_floor, wide_floor_for, wide_held, word_held, word_is}
use Rattle.solve_passes.proofs.Passing.{IsNew, front_of_pass, last_kept_all, nothing_last, some_pass, text_of_pass}
use Rattle.solve_passes.proofs.Words.{keeps_word, word_after}
use Rattle.solve_passes.specs.Announcing.{MayAnnounce, TellsLast, counts_of}
use Rattle.solve_passes.specs.Counted.{Closes, CountsClosed, CountsHalted, CountsRefused, Halts, HasWords, IsWord}
use Rattle.solve_passes.specs.Ongoing.{Concluded, HasWord, HistoryOf, announces, rest_text, IsBoundOf, IsFollowed, IsImproved, IsLast, IsOngoing, IsWordOf, GoesOn, LosesNothing, Passes, floor_for, going_on, halt_ending, halt_in, held_after, held_cost, lines_of, pass_of, printed_bound, progress_after, solutions_of, tally_in, verdict_of}
use Rattle.solve_passes.specs.Records.{Announced, Pass, Ending, Ended, OutOfMemory, Record, TellsBest, announced_lines, costs_in, KeepsWord, LastDroppedNone, RightBound, RightEnding, RightVerdict}
use Rattle.solve_passes.specs.declared.progress.Counts.{Counts}
use Rattle.solve_passes.specs.declared.progress.Printing.{Printing}
use Rattle.solve_passes.specs.declared.progress.Progress.{Progress}
use Rattle.solve_passes.specs.declared.progress.Tally.{Tally}
use Rattle.run_ends.specs.declared.status.Status.{Status}
use Rattle.run_ends.specs.declared.status.Status.TheVariants as statuses

-- ---- what is known of a pass

drawn_in : (gap : Bool) (p : ledgers.Pass) (before after : View) (end : PassEnd) → IsPassEnd p before after end → HasDrawn p.model p.keep before after (tally_in gap end).visited
drawn_in gap p before after (ends.Closed visited dropped floor best) h = h.0
drawn_in gap p before after (ends.Halted cause visited dropped best) h = h.0

legal_in : (gap : Bool) (p : ledgers.Pass) (before after : View) (end : PassEnd) → IsPassEnd p before after end → IsLegal p.model (tally_in gap end).best
legal_in gap p before after (ends.Closed visited dropped floor best) h = h.1
legal_in gap p before after (ends.Halted cause visited dropped best) h = h.1

-- the costs that are compared have order words
floor_in : (gap : Bool) (p : ledgers.Pass) (before after : View) (end : PassEnd) → ledgers.StartsInner p → 1 ≤ p.share → IsPassEnd p before after end → IfSome (tally_in gap end).least_floor InWideRange
floor_in gap p before after (ends.Closed visited dropped floor best) inner share h = wide_floor_for gap floor (wide_floor p before after visited dropped floor best inner share h)
floor_in gap p before after (ends.Halted cause visited dropped best) inner share h = tt

-- a better solution is legal, and better than what is held
is_new : (m : Model) (held best found : Option Found) → IsLegal m best → IsImproved m held best found → IsNew m held found
is_new m held best None legal improved = tt
is_new m held best (Some f) legal improved = (subst (λ (b : Option Found). IsLegal m b) improved.0 legal, improved.1)

-- ---- a pass that dropped nothing

verdict_right : (m : Model) (options : Options) (gap : Bool) (held : Option Found) (count visited : ℕ) (ps : List Pass) → Passes m options.keep held count visited ps → LastDroppedNone ps → RightVerdict m options gap (record { at_target = None; passes = ps; bound = None; ending = Ended (verdict_of held) }) (verdict_of held)
verdict_right m options gap None count visited ps h last = (nothing_last (solutions_of ps) h.last, inl last)
verdict_right m options gap (Some f) count visited ps h last = (ap held_cost h.last, inl last)

-- no legal list has a word below the best word
none_below : (p : ledgers.Pass) (before after : View) (visited dropped : ℕ) (floor : Option ℤ) (best : Option Found) → ledgers.StartsInner p → IsClosed p before after visited dropped floor best → dropped ≡ 0 → ledgers.IsTrusted p → NoneBelow p (pos (best_known after))
none_below p before after visited dropped floor best inner h none trusted = (law p h.records (best_known before) (best_known after) inner trusted h.ledger h.closed).0 (drops_none p h.records (sym h.drops ∙ none))

-- ---- a run that has come so far, and one pass more

module _ (m : Model) (options : Options) (gap : Bool) (board : BoardFacts) (progress : Progress) (seat after : SeatFacts) (some : 1 ≤ options.workers)
    (inner : Inner m m.target)
    (ongoing : IsOngoing m options board progress seat)
    (on_board : IsSeatOf board after)
    (whole : IsWhole after.view) (announced : Option Announced) where
  abbrev run : ledgers.Pass
  run = runs.pass_of m options progress.schedule.share some

  abbrev Made : PassEnd → Type 0
  Made end = IsPassEnd run seat.view after.view end

  limited : after.view.limit ≡ options.budget
  limited = on_board.2 ∙ ongoing.limit

  some_share : 1 ≤ progress.schedule.share
  some_share = subst (λ (n : ℕ). 1 ≤ n) (sym ongoing.share) (pow_some progress.passes)

  -- the visits stay within the budget
  pub within : (end : PassEnd) → Made end → progress.visited + (tally_in gap end).visited ≤ options.budget
  within end made = let h = drawn_in gap run seat.view after.view end made in omega (arith, h.drawn, h.visits, ongoing.drawn, ongoing.within, limited)

  pub reached : (end : PassEnd) → Made end → IsAtMostReached m options.keep (tally_in gap end).visited
  reached end made =
      let h = drawn_in gap run seat.view after.view end made in
      reached_less m options.keep h.gained (tally_in gap end).visited h.reached (omega (arith, h.drawn, h.visits, ongoing.drawn, ongoing.within, limited))

  -- the costs of a tally have order words
  pub best_word : (end : PassEnd) (tally : Tally) → Made end → tally ≡ tally_in gap end → HasWord tally.best
  best_word end tally made same = subst (λ (t : Tally). HasWord t.best) (sym same) (legal_word m (tally_in gap end).best (legal_in gap run seat.view after.view end made))

  pub floor_word : (end : PassEnd) (tally : Tally) → Made end → tally ≡ tally_in gap end → IfSome tally.least_floor InWideRange
  floor_word end tally made same = subst (λ (t : Tally). IfSome t.least_floor InWideRange) (sym same) (floor_in gap run seat.view after.view end inner some_share made)

  best_after : (best found : Option Found) → IsLegal m best → IsImproved m progress.held best found → IsLowered run (best_known seat.view) best (best_known after.view) → IsWordOf m (best_known after.view) (held_after progress.held found)
  best_after best found legal improved lowered = word_after run (best_known seat.view) (best_known after.view) progress.held best found legal ongoing.best improved lowered

  word_after_pass : (best found : Option Found) → IsLegal m best → IsImproved m progress.held best found → HasWord (held_after progress.held found)
  word_after_pass best found legal improved = word_held m progress.held best found improved ongoing.has_word (legal_word m best legal)

  -- a closed pass dropped nodes, and the share doubles
  next : (visited dropped : ℕ) (floor : Option ℤ) (best found : Option Found) → Made (ends.Closed visited dropped floor best) → 0 < dropped → IsImproved m progress.held best found →
      IsOngoing m options board (going_on m dropped (floor_for gap floor) (progress_after progress found visited)) after
  next visited dropped floor best found made lost improved =
      let d = made.0 in
      let closed = made.2 in
      let small : 2 ^ progress.passes < 2 ^ 56 = subst (λ (n : ℕ). n < 2 ^ 56) ongoing.share (closed.small_share lost) in
      let few : progress.passes < 56 = pow_less progress.passes 56 small in
      let wide = closed.wider lost in
      let has_word = word_after_pass best found made.1 improved in
      record {
        share = ap (λ (n : ℕ). n * 2) ongoing.share ∙ sym (pow_next progress.passes);
        few_passes = omega (arith, few);
        on_board = on_board;
        limit = ongoing.limit;
        whole = whole;
        no_halt = closed.no_halt;
        drawn = omega (arith, d.drawn, d.visits, closed.on_time, ongoing.drawn, ongoing.within, limited);
        within = within (ends.Closed visited dropped floor best) made;
        best = best_after best found made.1 improved closed.best_is;
        has_word = has_word;
        wide_bound = wide_after m.minimize progress.bound (held_cost (held_after progress.held found)) (floor_for gap floor) ongoing.wide_bound (wide_held (held_after progress.held found) has_word)
            (floor_in gap run seat.view after.view (ends.Closed visited dropped floor best) inner some_share made);
        few_drawn = more_drawn m options.keep progress.passes progress.visited visited ongoing.few_drawn (reached (ends.Closed visited dropped floor best) made);
        narrow = λ w widest more. omega (arith, widest wide.0 wide.1 wide.2 wide.3, wide.4, ongoing.share, pow_next progress.passes);
      }

  abbrev Next : PassEnd → Option Found → Progress
  Next end found = going_on m (tally_in gap end).dropped (tally_in gap end).least_floor (progress_after progress found (tally_in gap end).visited)

  next_of : (end : PassEnd) (found : Option Found) → Made end → GoesOn (tally_in gap end) (halt_in end) → IsImproved m progress.held (tally_in gap end).best found → IsOngoing m options board (Next end found) after
  next_of (ends.Closed visited dropped floor best) found made lost improved = next visited dropped floor best found made lost improved
  next_of (ends.Halted cause visited dropped best) found made lost improved = absurd lost

  -- what was printed and kept after a pass
  abbrev pub Follows : Printing → (old out : Option (List ℕ)) → (new : Progress) → Tally → (halt : Option Cause) → Option Status → Type 0
  Follows printing old out new tally halt result = (found : Option Found) × IsImproved m progress.held tally.best found × IsFollowed (lines_of printing m progress announced tally found) printing m old out progress new tally halt found result × IsWord tally.dropped

  follows : (printing : Printing) (old out : Option (List ℕ)) (new : Progress) (end : PassEnd) (tally : Tally) (halt : Option Cause) (result : Option Status) → tally ≡ tally_in gap end → halt ≡ halt_in end → Follows printing old out new tally halt result → Follows printing old out new (tally_in gap end) (halt_in end) result
  follows printing old out new end tally halt result same_tally same_halt h =
      subst (λ (x : Option Cause). Follows printing old out new (tally_in gap end) x result) same_halt (subst (λ (t : Tally). Follows printing old out new t halt result) same_tally h)

  going : (printing : Printing) (old out : Option (List ℕ)) (new : Progress) (end : PassEnd) (result : Option Status) → Made end → Follows printing old out new (tally_in gap end) (halt_in end) result → IfNone result (IsOngoing m options board new after × (progress.passes < new.passes))
  going printing old out new end (Some status) made h = tt
  going printing old out new end None made h =
      let more : progress.passes < progress.passes + 1 = omega arith in
      subst (λ (n : Progress). IsOngoing m options board n after × (progress.passes < n.passes)) (sym h.2.1) (next_of end h.0 made h.2.0 h.1, more)

  -- where the run goes on
  pub goes_on : (printing : Printing) (old out : Option (List ℕ)) (new : Progress) (end : PassEnd) (tally : Tally) (halt : Option Cause) (result : Option Status) → Made end → tally ≡ tally_in gap end → halt ≡ halt_in end → Follows printing old out new tally halt result →
      IfNone result (IsOngoing m options board new after × (progress.passes < new.passes))
  goes_on printing old out new end tally halt result made same_tally same_halt h = going printing old out new end result made (follows printing old out new end tally halt result same_tally same_halt h)

  -- ---- how it ends

  abbrev passes : List Pass → PassEnd → Option Found → List Pass
  passes ps end found = all ps progress announced (tally_in gap end) found

  abbrev Known : List Pass → PassEnd → Option Found → Type 0
  Known ps end found = Passes m options.keep (held_after progress.held found) (progress.passes + 1) (progress.visited + (tally_in gap end).visited) (passes ps end found)

  abbrev run_of : List Pass → (bound : Option ℤ) → Ending → Record
  run_of ps bound ending = record { at_target = None; passes = ps; bound = bound; ending = ending }

  abbrev Fits : List Pass → (bound : Option ℤ) → Ending → Type 0
  Fits ps bound ending = RightBound m options gap (run_of ps bound ending) bound × RightEnding m options gap (run_of ps bound ending) ending × KeepsWord m options bound ending

  -- a closed pass dropped no node, or what is held meets the floors of the dropped nodes
  fits_closed : (ps : List Pass) (visited dropped : ℕ) (floor : Option ℤ) (best found : Option Found) → Made (ends.Closed visited dropped floor best) → LosesNothing m dropped (floor_for gap floor) (held_after progress.held found) → IsImproved m progress.held best found → Known ps (ends.Closed visited dropped floor best) found →
      Fits (passes ps (ends.Closed visited dropped floor best) found) None (Ended (verdict_of (held_after progress.held found)))
  fits_closed ps visited dropped floor best found made (inl none) improved known =
      let this = pass_of progress announced found visited dropped in (
        no_bound_before_verdict m options gap (ps ++ this ∷ []) (held_after progress.held found),
        (verdict_right m options gap (held_after progress.held found) (progress.passes + 1) (progress.visited + visited) (ps ++ this ∷ []) known (last_kept_all ps this none), λ e needs. some_pass ps this e),
        keeps_word run options (best_known after.view) (held_after progress.held found) (best_after best found made.1 improved made.2.best_is)
            (λ trusted. none_below run seat.view after.view visited dropped floor best inner made.2 none trusted),
      )
  fits_closed ps visited dropped floor best found made (inr met) improved known =
      let this = pass_of progress announced found visited dropped in
      let shown = gap_law run seat.view after.view visited dropped floor best inner some_share made met.0 in
      let proved = met_floor m options gap progress.schedule.share some (best_known after.view) floor (held_after progress.held found) shown (best_after best found made.1 improved made.2.best_is) met.1 in (
        no_bound_before_verdict m options gap (ps ++ this ∷ []) (held_after progress.held found),
        (proved_right m options gap (held_after progress.held found) (progress.passes + 1) (progress.visited + visited) (ps ++ this ∷ []) proved known, λ e needs. some_pass ps this e),
        proved_word m options gap (held_after progress.held found) proved,
      )

  -- a pass was halted
  fits_halted : (ps : List Pass) (cause : Cause) (visited dropped : ℕ) (best found : Option Found) → Made (ends.Halted cause visited dropped best) → IsBoundOf m options gap progress.passes (solutions_of ps) progress.bound → Known ps (ends.Halted cause visited dropped best) found →
      Fits (passes ps (ends.Halted cause visited dropped best) found) (printed_bound (Some cause) progress.bound) (halt_ending (progress.visited + visited) cause)
  fits_halted ps causes.Budget visited dropped best found made proved known =
      let d = made.0 in
      let this = pass_of progress announced found visited dropped in
      let late : seat.view.drawn - after.view.limit < after.view.drawn - after.view.limit = made.2.cause_is.1 in
      let spent : progress.visited + visited ≡ options.budget = omega (arith, d.drawn, d.visits, ongoing.drawn, ongoing.within, limited, late) in
      let more : options.budget < progress.visited + d.gained = omega (arith, d.drawn, ongoing.drawn, ongoing.within, limited, late) in (
        stopped_bound m options gap progress.passes ps this (progress.visited + visited) progress.bound proved known.counted,
        ((spent, sym known.spent, below_enough m options.keep options.budget progress.passes progress.visited d.gained ongoing.few_drawn ongoing.narrow d.reached more), λ e needs. some_pass ps this e),
        stopped_word m options gap progress.passes (solutions_of ps) progress.bound proved,
      )
  fits_halted ps (causes.Fault fault) visited dropped best found made proved known = (
    λ needs. let clash : Ended (verdicts.Fault fault) ≡ Ended (verdicts.Stopped needs.0.0) = needs.0.1 in absurd cc,
    (made.2.cause_is.1, λ e needs. needs),
    tt,
  )
  fits_halted ps causes.Memory visited dropped best found made proved known = (no_bound_before_memory m options gap None (ps ++ pass_of progress announced found visited dropped ∷ []), tt, tt)

  fits : (ps : List Pass) (end : PassEnd) (found : Option Found) (ending : Ending) → Made end → IsImproved m progress.held (tally_in gap end).best found → IsBoundOf m options gap progress.passes (solutions_of ps) progress.bound → Known ps end found →
      IsLast m (tally_in gap end) (halt_in end) (progress_after progress found (tally_in gap end).visited) ending → Fits (passes ps end found) (printed_bound (halt_in end) progress.bound) ending
  fits ps (ends.Closed visited dropped floor best) found ending made improved proved known last =
      subst (λ (e : Ending). Fits (passes ps (ends.Closed visited dropped floor best) found) None e) (sym last.1) (fits_closed ps visited dropped floor best found made last.0 improved known)
  fits ps (ends.Halted cause visited dropped best) found ending made improved proved known last =
      subst (λ (e : Ending). Fits (passes ps (ends.Halted cause visited dropped best) found) (printed_bound (Some cause) progress.bound) e) (sym last) (fits_halted ps cause visited dropped best found made proved known)

  -- ---- what it counts

  -- a closed pass
  closed_counts : (visited dropped : ℕ) (floor : Option ℤ) (best found : Option Found) → Made (ends.Closed visited dropped floor best) → CountsClosed m options (pass_of progress announced found visited dropped)
  closed_counts visited dropped floor best found made =
      let is = made.2 in
      record { some = some; records = is.records; opening = best_known seat.view; best = best_known after.view; ledger = is.ledger; closed = is.closed; visits = is.visits; drops = is.drops }

  -- one that was halted while memory lasted
  halted_counts : (cause : Cause) (visited dropped : ℕ) (best found : Option Found) → Made (ends.Halted cause visited dropped best) → (cause ≡ causes.Memory → ⊥)
      → CountsHalted m options (halt_ending (progress.visited + visited) cause) (pass_of progress announced found visited dropped)
  halted_counts cause visited dropped best found made fine =
      let left = made.3 fine in
      record { some = some; records = left.records; long = left.long; together = left.together; visits = λ v is. left.visits (was_spent (progress.visited + visited) cause v is); drops = left.drops }

  counts_on_close : (end : PassEnd) (found : Option Found) (ending : Ending) → Made end → IsLast m (tally_in gap end) (halt_in end) (progress_after progress found (tally_in gap end).visited) ending → Closes ending
      → CountsClosed m options (pass_of progress announced found (tally_in gap end).visited (tally_in gap end).dropped)
  counts_on_close (ends.Closed visited dropped floor best) found ending made last closes = closed_counts visited dropped floor best found made
  counts_on_close (ends.Halted cause visited dropped best) found ending made last closes = absurd (no_close (progress.visited + visited) cause (subst Closes last closes))

  counts_on_halt : (end : PassEnd) (found : Option Found) (ending : Ending) → Made end → IsLast m (tally_in gap end) (halt_in end) (progress_after progress found (tally_in gap end).visited) ending → Halts ending
      → CountsHalted m options ending (pass_of progress announced found (tally_in gap end).visited (tally_in gap end).dropped)
  counts_on_halt (ends.Closed visited dropped floor best) found ending made last halts = absurd (no_halt (held_after progress.held found) (subst Halts last.1 halts))
  counts_on_halt (ends.Halted cause visited dropped best) found ending made last halts =
      subst (λ (e : Ending). CountsHalted m options e (pass_of progress announced found visited dropped)) (sym last)
      (halted_counts cause visited dropped best found made (had_memory (progress.visited + visited) cause (subst Halts last halts)))

  -- calls that found no room
  abbrev pub Refuses : Type 0
  Refuses = (some : 1 ≤ options.workers) → IfSome announced (λ a. HasRefused (runs.pass_of m options progress.schedule.share some) a.refused)

  -- its numbers have 64 bits
  words_of : (printing : Printing) (found : Option Found) (visited dropped : ℕ) → MayAnnounce m printing (held_cost progress.held) announced → IsWord dropped → HasWords (pass_of progress announced found visited dropped)
  words_of printing found visited dropped may few =
      let number : progress.passes + 1 ≤ 57 = omega (arith, ongoing.few_passes) in
      let share : progress.schedule.share ≤ 2 ^ 56 = omega (arith, ongoing.share, pow_small progress.passes ongoing.few_passes) in
      record { number = number; share = share; dropped = few; refused = may.few_refused }

  -- ---- what it announces

  -- what the pass may announce; where memory sufficed, the last cost has the best word; and what it counts of refused calls
  abbrev pub Tells : Printing → PassEnd → Type 0
  Tells printing end = MayAnnounce m printing (held_cost progress.held) announced
      × TellsLast m printing (held_cost progress.held) (best_known seat.view) (best_known after.view) end announced
      × Refuses

  word_before : (held : Option Found) → IsWordOf m (best_known seat.view) held → pos (best_known seat.view) ≡ word_or_none m (held_cost held)
  word_before None is = ap pos is
  word_before (Some f) is = is

  last_by : (printing : Printing) (best found : Option Found) → MayAnnounce m printing (held_cost progress.held) announced → IsLegal m best → IsImproved m progress.held best found → IsLowered run (best_known seat.view) best (best_known after.view)
      → pos (best_known after.view) ≡ word_or_none m (last_or (held_cost progress.held) (costs_in announced)) → last_or (held_cost progress.held) (costs_in announced) ≡ held_cost (held_after progress.held found)
  last_by printing best found may legal improved lowered word =
      last_held m printing progress.held (held_after progress.held found) announced (best_known after.view) may ongoing.has_word (word_after_pass best found legal improved) (best_after best found legal improved lowered) word

  last_cost : (printing : Printing) (end : PassEnd) (found : Option Found) → Tells printing end → Made end → IsImproved m progress.held (tally_in gap end).best found → (RanOut end → ⊥) → announces printing ≡ true
      → last_or (held_cost progress.held) (costs_in announced) ≡ held_cost (held_after progress.held found)
  last_cost printing (ends.Closed visited dropped floor best) found tells made improved fine on = last_by printing best found tells.0 made.1 improved made.2.best_is (tells.1 fine on (word_before progress.held ongoing.best))
  last_cost printing (ends.Halted cause visited dropped best) found tells made improved fine on = last_by printing best found tells.0 made.1 improved (made.2.best_is fine) (tells.1 fine on (word_before progress.held ongoing.best))

  better_by : (best found : Option Found) → IsImproved m progress.held best found → IfSome found (λ f. IfSome progress.held (λ h. IsBetter m.minimize f.cost h.cost))
  better_by best None improved = tt
  better_by best (Some f) improved = improved.1

  told_best : (printing : Printing) (end : PassEnd) (found : Option Found) → Tells printing end → Made end → IsImproved m progress.held (tally_in gap end).best found → (RanOut end → ⊥) → TellsBest (pass_of progress announced found (tally_in gap end).visited (tally_in gap end).dropped)
  told_best printing end found tells made improved fine = tells_best m printing progress.held found announced tells.0 (better_by (tally_in gap end).best found improved) (last_cost printing end found tells made improved fine)

  -- a run that ends otherwise had memory
  not_out : (end : PassEnd) (found : Option Found) (ending : Ending) → IsLast m (tally_in gap end) (halt_in end) (progress_after progress found (tally_in gap end).visited) ending → (ending ≡ OutOfMemory → ⊥) → RanOut end → ⊥
  not_out (ends.Closed visited dropped floor best) found ending last going ran = ran
  not_out (ends.Halted cause visited dropped best) found ending last going ran = going (last ∙ ap (halt_ending (progress.visited + visited)) ran)

  new_of : (end : PassEnd) (found : Option Found) → Made end → IsImproved m progress.held (tally_in gap end).best found → IsNew m progress.held found
  new_of end found made improved = is_new m progress.held (tally_in gap end).best found (legal_in gap run seat.view after.view end made) improved

  ended : (printing : Printing) (old out : Option (List ℕ)) (new : Progress) (end : PassEnd) (found : Option Found) (result : Option Status) → Made end → IsImproved m progress.held (tally_in gap end).best found → Tells printing end
      → IsFollowed (lines_of printing m progress announced (tally_in gap end) found) printing m old out progress new (tally_in gap end) (halt_in end) found result → IsWord (tally_in gap end).dropped →
      IfSome result (λ status. (before : Option (List ℕ)) → HistoryOf m options gap printing before old progress → Concluded m options gap printing before out (solved_by status new.held))
  ended printing old out new end found None made improved tells followed few = tt
  ended printing old out new end found (Some status) made improved tells (inl told) few = λ before h.
      let better = new_of end found made improved in
      let known = grown m options gap printing before old progress announced (tally_in gap end) found h better ongoing.share (reached end made) (within end made) tells.0 in
      let fit = fits h.passes end found told.1 made improved h.proved known told.3 in
      over m options gap printing before old progress announced (tally_in gap end) found h better ongoing.share (reached end made) (within end made) tells.0 told.0 out status (printed_bound (halt_in end) progress.bound) told.1 new.held told.2 fit.0 fit.1 fit.2 told.4 told.5
      (λ going. told_best printing end found tells made improved (not_out end found told.1 told.3 going)) (counts_on_close end found told.1 made told.3) (counts_on_halt end found told.1 made told.3) tells.2
      (words_of printing found (tally_in gap end).visited (tally_in gap end).dropped tells.0 few)
      (wide_printed (halt_in end) progress.bound ongoing.wide_bound)
  ended printing old out new end found (Some status) made improved tells (inr failed) few = λ before h.
      failed_pass m options gap printing before old progress announced (tally_in gap end) found h (new_of end found made improved) ongoing.share (reached end made) (within end made) tells.0 out status new.held tells.2
      (words_of printing found (tally_in gap end).visited (tally_in gap end).dropped tells.0 few) failed.0 failed.1

  -- a write of what it announced failed, before any of its counts was written
  pub fails : (printing : Printing) (old out : Option (List ℕ)) (end : PassEnd) → Made end → MayAnnounce m printing (held_cost progress.held) announced → Refuses → TakesFront old out (announced_lines announced) → (before : Option (List ℕ)) → HistoryOf m options gap printing before old progress →
      Concluded m options gap printing before out (solved_by statuses.WriteFault progress.held)
  fails printing old out end made may refused front before h =
      let visited = (tally_in gap end).visited in
      let none : IsWord 0 = (let less : 0 < 2 ^ 64 = omega arith in less) in
      failed_pass m options gap printing before old progress announced (record { visited = visited; dropped = 0; least_floor = None; best = None }) None h tt ongoing.share (reached end made) (within end made) may out statuses.WriteFault progress.held
      refused (words_of printing None visited 0 may none) refl (front_of_pass printing m progress announced None visited 0 old out may.on front)

  -- what follows a pass stands behind what it announced
  pub led_on : (printing : Printing) (counts : Option Counts) (old mid out : Option (List ℕ)) (new : Progress) (tally : Tally) (halt : Option Cause) (result : Option Status) → MayAnnounce m printing (held_cost progress.held) announced → counts ≡ counts_of announced →
      Takes old mid (announced_lines announced) →
      (found : Option Found) × IsImproved m progress.held tally.best found × IsFollowed (rest_text printing m progress counts found tally.visited tally.dropped) printing m mid out progress new tally halt found result → IsWord tally.dropped → Follows printing old out new tally halt result
  led_on printing counts old mid out new tally halt result may same took f few = (
    f.0,
    f.1,
    subst (λ (lines : List ℕ). IsFollowed lines printing m old out progress new tally halt f.0 result) (text_of_pass printing m progress announced f.0 tally.visited tally.dropped may.on)
        (led (announced_lines announced) (rest_text printing m progress (counts_of announced) f.0 tally.visited tally.dropped) printing m old mid out progress new tally halt f.0 result took
        (subst (λ (c : Option Counts). IsFollowed (rest_text printing m progress c f.0 tally.visited tally.dropped) printing m mid out progress new tally halt f.0 result) same f.2)),
    few,
  )

  -- the record of a run that is over
  pub concludes : (printing : Printing) (old out : Option (List ℕ)) (new : Progress) (end : PassEnd) (tally : Tally) (halt : Option Cause) (result : Option Status) → Made end → Tells printing end → tally ≡ tally_in gap end → halt ≡ halt_in end → Follows printing old out new tally halt result →
      IfSome result (λ status. (before : Option (List ℕ)) → HistoryOf m options gap printing before old progress → Concluded m options gap printing before out (solved_by status new.held))
  concludes printing old out new end tally halt result made tells same_tally same_halt h =
      let f = follows printing old out new end tally halt result same_tally same_halt h in
      ended printing old out new end f.0 result made f.1 tells f.2 f.3

  -- ---- the record so far of a run that goes on

  -- the bound of the passes, with one more
  proved_more : (ps : List Pass) (visited dropped : ℕ) (floor : Option ℤ) (best found : Option Found) → Made (ends.Closed visited dropped floor best) → 0 < dropped → IsImproved m progress.held best found → IsBoundOf m options gap progress.passes (solutions_of ps) progress.bound → Known ps (ends.Closed visited dropped floor best) found →
      IsBoundOf m options gap (progress.passes + 1) (solutions_of (passes ps (ends.Closed visited dropped floor best) found)) (with_floor m.minimize progress.bound (held_cost (held_after progress.held found)) (floor_for gap floor))
  proved_more ps visited dropped floor best found made lost improved proved known =
      let this = pass_of progress announced found visited dropped in
      let held = held_after progress.held found in
      let shown = gap_law run seat.view after.view visited dropped floor best inner some_share made lost in
      bound_more m options gap progress.schedule.share some (best_known after.view) progress.passes (solutions_of ps) (solutions_of (ps ++ this ∷ [])) progress.bound (held_cost held) floor proved (costs_more ps this)
      (held_has (solutions_of (ps ++ this ∷ [])) held known.last) (wide_held held (word_after_pass best found made.1 improved)) (word_is m (best_known after.view) held (best_after best found made.1 improved made.2.best_is)) shown

  kept : (printing : Printing) (before old out : Option (List ℕ)) (end : PassEnd) (found : Option Found) → Made end → GoesOn (tally_in gap end) (halt_in end) → IsImproved m progress.held (tally_in gap end).best found → Tells printing end → Takes old out (lines_of printing m progress announced (tally_in gap end) found) → IsWord (tally_in gap end).dropped → HistoryOf m options gap printing before old progress →
      HistoryOf m options gap printing before out (Next end found)
  kept printing before old out (ends.Closed visited dropped floor best) found made lost improved tells took few h =
      let end = ends.Closed visited dropped floor best in
      let better = new_of end found made improved in
      let known = grown m options gap printing before old progress announced (tally_in gap end) found h better ongoing.share (reached end made) (within end made) tells.0 in
      went_on m options gap printing before old progress announced (tally_in gap end) found h better ongoing.share (reached end made) (within end made) tells.0 out (Next end found).bound took lost (proved_more h.passes visited dropped floor best found made lost improved h.proved known)
      (told_best printing end found tells made improved (λ ran. ran)) (last_cost printing end found tells made improved (λ ran. ran)) (closed_counts visited dropped floor best found made) tells.2 (words_of printing found visited dropped tells.0 few)
  kept printing before old out (ends.Halted cause visited dropped best) found made lost improved tells took few h = absurd lost

  grows : (printing : Printing) (old out : Option (List ℕ)) (new : Progress) (end : PassEnd) (result : Option Status) → Made end → Tells printing end → Follows printing old out new (tally_in gap end) (halt_in end) result →
      IfNone result ((before : Option (List ℕ)) → HistoryOf m options gap printing before old progress → HistoryOf m options gap printing before out new)
  grows printing old out new end (Some status) made tells f = tt
  grows printing old out new end None made tells f = λ before h.
      subst (λ (n : Progress). HistoryOf m options gap printing before out n) (sym f.2.1) (kept printing before old out end f.0 made f.2.0 f.1 tells f.2.2 f.3 h)

  pub history : (printing : Printing) (old out : Option (List ℕ)) (new : Progress) (end : PassEnd) (tally : Tally) (halt : Option Cause) (result : Option Status) → Made end → Tells printing end → tally ≡ tally_in gap end → halt ≡ halt_in end → Follows printing old out new tally halt result →
      IfNone result ((before : Option (List ℕ)) → HistoryOf m options gap printing before old progress → HistoryOf m options gap printing before out new)
  history printing old out new end tally halt result made tells same_tally same_halt h = grows printing old out new end result made tells (follows printing old out new end tally halt result same_tally same_halt h)
