-- What a run came to after a pass, by what was printed.
use Rattle.std.proofs.Common.{◌≡◌, ℕ, ◌+◌, ◌^◌, ◌<◌, ◌≤◌, true, false, Result, Ok, Err, Bool, List, [], ◌∷◌, ◌++◌, refl, sym, ap, ◌∙◌, subst, slice_get, ℤ, Option, Some, None, is_some, ◌⊎◌, inl, inr, arith}
use Rattle.std.specs.Prelude.{IfSome, OnErr, OnOk}
use Rattle.std.specs.Result.{is_err}
use Rattle.cost_laws.specs.Orders.{InWideRange}
use Rattle.dp_claims.specs.Enough.{IsAtMostReached}
use Rattle.dp_model.specs.declared.answers.Found.{Found}
use Rattle.dp_model.specs.declared.answers.Options.{Options}
use Rattle.dp_model.specs.declared.answers.Verdict.TheVariants as verdicts
use Rattle.dp_model.specs.declared.whole.Model.{Model}
use Rattle.dp_outside.proofs.Steps.{Takes-more}
use Rattle.dp_outside.specs.Outside.{Takes, TakesFront}
use Rattle.dp_outside.specs.declared.failing.Failed.{Failed}
use Rattle.solve_passes.proofs.Passing.{IsNew, dropping_more, last_but_dropped, passes_more, right_record, text_more, text_of_record}
use Rattle.run_ends.specs.Claims.{claim_with, solved_by}
use Rattle.run_ends.specs.declared.solved.Solved.{Solved}
use Rattle.solve_passes.proofs.Announces.{announced_more, each_announces, right_more}
use Rattle.solve_passes.proofs.Counted.{closed_more, counted_more}
use Rattle.solve_passes.specs.Announcing.{MayAnnounce}
use Rattle.solve_passes.specs.Counted.{Closes, CountsClosed, CountsHalted, CountsRefused, Halts, HasWords}
use Rattle.solve_passes.specs.Ongoing.{Passes, History, HistoryOf, Concluded, IsBoundOf, IsTold, announces, held_after, held_cost, lines_of, pass_of, solutions_of}
use Rattle.pass_over.specs.Announcements.{last_or}
use Rattle.solve_passes.specs.Records.{Announced, Pass, Ending, Ended, OutOfMemory, Record, KeepsWord, RightAnnounced, RightBound, RightEnding, TellsBest, costs_in, bound_text, claim_after, claim_of, ending_status, ending_text, passes_text}
use Rattle.solve_passes.specs.declared.progress.Printing.{Printing}
use Rattle.solve_passes.specs.declared.progress.Progress.{Progress}
use Rattle.solve_passes.specs.declared.progress.Tally.{Tally}
use Rattle.run_ends.specs.declared.status.Status.{Status}
use Rattle.run_ends.specs.declared.status.Status.TheVariants as statuses
use Rattle.solve_report.proofs.Written.{TakesFront-append, TakesFront-longer}

-- what is known where a call failed
pub of_err : {P : Type 0} (r : Result (Unit {0}) Failed) → true ≡ is_err r → OnErr r P → P
of_err (Ok done) failed known = absurd (grind (arith, failed))
of_err (Err e) failed known = known

-- what is known where a call did not fail
pub of_ok : {P : Type 0} (r : Result (Unit {0}) Failed) → false ≡ is_err r → OnOk r P → P
of_ok (Ok done) well known = known
of_ok (Err e) well known = absurd (grind (arith, well))

-- what is known of an answer
pub answered : {m : Model} {options : Options} {gap : Bool} {printing : Printing} {before after : Option (List ℕ)} {solved : Solved} (answer : Solved) → answer ≡ solved → Concluded m options gap printing before after solved → Concluded m options gap printing before after answer
answered {m} {options} {gap} {printing} {before} {after} {solved} answer same known = subst (Concluded m options gap printing before after) (sym same) known

-- ---- a bound and an ending

-- an ending behind a bound that was printed
pub told_behind : (printing : Printing) (m : Model) (before mid after : Option (List ℕ)) (status : Status) (bound : Option ℤ) (ending : Ending) → Takes before mid (bound_text bound printing) →
    ((status ≡ ending_status ending) × Takes mid after (ending_text m ending)) ⊎ ((status ≡ statuses.WriteFault) × TakesFront mid after (ending_text m ending)) → IsTold printing m before after status bound ending
told_behind printing m before mid after status bound ending took (inl h) = inl (h.0, Takes-more before mid after (bound_text bound printing) (ending_text m ending) took h.1)
told_behind printing m before mid after status bound ending took (inr h) = inr (h.0, TakesFront-append before mid after (bound_text bound printing) (ending_text m ending) took h.1)

-- the bound could not be printed
pub bound_failed : (printing : Printing) (m : Model) (before after : Option (List ℕ)) (bound : Option ℤ) (ending : Ending) → TakesFront before after (bound_text bound printing) → IsTold printing m before after statuses.WriteFault bound ending
bound_failed printing m before after bound ending front = inr (refl, TakesFront-longer before after (bound_text bound printing) (ending_text m ending) front)

-- ---- what is claimed

-- by the status of an ending that is right and by the last solution
pub claimed : (m : Model) (options : Options) (gap : Bool) (r : Record) (last : Option Found) (e : Ending) → RightEnding m options gap r e → claim_with (ending_status e) last ≡ claim_after last e
claimed m options gap r last (Ended (verdicts.Optimal c)) right = refl
claimed m options gap r last (Ended verdicts.Infeasible) right = refl
claimed m options gap r last (Ended (verdicts.Stopped v)) right = refl
claimed m options gap r last (Ended (verdicts.Fault f)) right = refl
claimed m options gap r last (Ended (verdicts.Legal c)) right = absurd right.0
claimed m options gap r last (Ended (verdicts.Illegal n reason)) right = absurd right.0
claimed m options gap r last OutOfMemory right = refl

-- after a failed write nothing is
pub unclaimed : (status : Status) (last : Option Found) → status ≡ statuses.WriteFault → claim_with status last ≡ None
unclaimed status last fault = ap (λ (s : Status). claim_with s last) fault

-- no bound stands before another ending than `stopped`
pub no_bound_before_memory : (m : Model) (options : Options) (gap : Bool) (target : Option Found) (ps : List Pass) → RightBound m options gap (record { at_target = target; passes = ps; bound = None; ending = OutOfMemory }) None
no_bound_before_memory m options gap target ps needs = let clash : OutOfMemory ≡ Ended (verdicts.Stopped needs.0.0) = needs.0.1 in absurd cc

-- ---- a pass more

-- the passes with one more
abbrev pub all : List Pass → Progress → Option Announced → Tally → Option Found → List Pass
all ps progress announced tally found = ps ++ pass_of progress announced found tally.visited tally.dropped ∷ []

-- after one pass more
module _ (m : Model) (options : Options) (gap : Bool) (printing : Printing) (before old : Option (List ℕ)) (progress : Progress) (announced : Option Announced) (tally : Tally) (found : Option Found)
    (h : HistoryOf m options gap printing before old progress)
    (new : IsNew m progress.held found)
    (share : progress.schedule.share ≡ 2 ^ progress.passes)
    (reached : IsAtMostReached m options.keep tally.visited)
    (within : progress.visited + tally.visited ≤ options.budget)
    (may : MayAnnounce m printing (held_cost progress.held) announced) where
  abbrev this : Pass
  this = pass_of progress announced found tally.visited tally.dropped

  abbrev run : List Pass
  run = h.passes ++ this ∷ []

  abbrev run_of : Option ℤ → Ending → Record
  run_of bound ending = record { at_target = None; passes = run; bound = bound; ending = ending }

  pub grown : Passes m options.keep (held_after progress.held found) (progress.passes + 1) (progress.visited + tally.visited) (all h.passes progress announced tally found)
  grown = passes_more m options.keep progress.held progress.passes progress.visited h.passes this h.known refl share reached new

  told_on : (mid : Option (List ℕ)) → Takes old mid (lines_of printing m progress announced tally found) → Takes before mid (passes_text printing m run)
  told_on mid told = subst (Takes before mid) (sym (text_more printing m h.passes this)) (Takes-more before old mid (passes_text printing m h.passes) (lines_of printing m progress announced tally found) h.told told)

  told_front : (mid : Option (List ℕ)) → TakesFront old mid (lines_of printing m progress announced tally found) → TakesFront before mid (passes_text printing m run)
  told_front mid front = subst (TakesFront before mid) (sym (text_more printing m h.passes this)) (TakesFront-append before old mid (passes_text printing m h.passes) (lines_of printing m progress announced tally found) h.told front)

  -- what was announced
  announced_by : (ending : Ending) → ((ending ≡ OutOfMemory → ⊥) → TellsBest this) → RightAnnounced m ending run
  announced_by ending best = right_more m printing progress.held h.passes this h.announced may ending best

  announcing : (k : ℕ) (p : Pass) → slice_get run k ≡ Some p → is_some p.announced ≡ announces printing
  announcing = each_announces m printing progress.held h.passes this h.announced may

  -- a write of the pass failed
  pub failed_pass : (after : Option (List ℕ)) (status : Status) (last : Option Found) → CountsRefused m options this → HasWords this → status ≡ statuses.WriteFault → TakesFront old after (lines_of printing m progress announced tally found) → Concluded m options gap printing before after (solved_by status last)
  failed_pass after status last refused words fault front = record {
    run = record { at_target = None; passes = run; bound = None; ending = OutOfMemory };
    announcing = announcing;
    right = right_record m options gap (held_after progress.held found) (progress.passes + 1) (progress.visited + tally.visited) run None OutOfMemory grown (last_but_dropped h.passes this h.dropping) within (announced_by OutOfMemory (λ other. absurd (other refl))) (no_bound_before_memory m options gap None run) tt;
    counted = counted_more m options h.passes this h.counts None OutOfMemory (λ closes. absurd closes) (λ halts. absurd halts) refused words tt;
    word = tt;
    printed = inr (
      fault,
      subst (TakesFront before after) (sym (text_of_record printing m run None OutOfMemory)) (TakesFront-longer before after (passes_text printing m run) (ending_text m OutOfMemory) (told_front after front)),
      unclaimed status last fault,
    );
  }

  -- the run is over, with a right ending
  pub over : (mid after : Option (List ℕ)) (status : Status) (bound : Option ℤ) (ending : Ending) (last : Option Found) → Takes old mid (lines_of printing m progress announced tally found) →
      RightBound m options gap (run_of bound ending) bound → RightEnding m options gap (run_of bound ending) ending → KeepsWord m options bound ending →
      IsTold printing m mid after status bound ending → last ≡ held_after progress.held found → ((ending ≡ OutOfMemory → ⊥) → TellsBest this) →
      (Closes ending → CountsClosed m options this) → (Halts ending → CountsHalted m options ending this) → CountsRefused m options this → HasWords this → IfSome bound InWideRange → Concluded m options gap printing before after (solved_by status last)
  over mid after status bound ending last told bounded right word printed is_last best closed halted refused words wide = record {
    run = run_of bound ending;
    announcing = announcing;
    right = right_record m options gap (held_after progress.held found) (progress.passes + 1) (progress.visited + tally.visited) run bound ending grown (last_but_dropped h.passes this h.dropping) within (announced_by ending best) bounded right;
    counted = counted_more m options h.passes this h.counts bound ending closed halted refused words wide;
    word = word;
    printed = subst (λ (t : List ℕ). ((status ≡ ending_status ending) × Takes before after t × (claim_with status last ≡ claim_of (run_of bound ending))) ⊎ ((status ≡ statuses.WriteFault) × TakesFront before after t × (claim_with status last ≡ None)))
        (sym (text_of_record printing m run bound ending))
        (elim printed [
          | inl p ↦ inl (
            p.0,
            Takes-more before mid after (passes_text printing m run) (bound_text bound printing ++ ending_text m ending) (told_on mid told) p.1,
            ap (λ (s : Status). claim_with s last) p.0 ∙ claimed m options gap (run_of bound ending) last ending right ∙ ap (λ (l : Option Found). claim_after l ending) (is_last ∙ sym grown.last),
          )
          | inr p ↦ inr (p.0, TakesFront-append before mid after (passes_text printing m run) (bound_text bound printing ++ ending_text m ending) (told_on mid told) p.1, unclaimed status last p.0)
        ]);
  }

  -- nodes were dropped, and the run goes on
  pub went_on : (mid : Option (List ℕ)) (bound : Option ℤ) → Takes old mid (lines_of printing m progress announced tally found) → 0 < tally.dropped → IsBoundOf m options gap (progress.passes + 1) (solutions_of run) bound → TellsBest this →
      (announces printing ≡ true → last_or (held_cost progress.held) (costs_in announced) ≡ held_cost (held_after progress.held found)) → CountsClosed m options this → CountsRefused m options this → HasWords this →
      History m options gap printing before mid (held_after progress.held found) (progress.passes + 1) (progress.visited + tally.visited) bound
  went_on mid bound told some proved best last closed refused words = record { passes = run; told = told_on mid told; known = grown; dropping = dropping_more h.passes this some h.dropping; proved = proved; announced = announced_more m printing progress.held h.passes this h.announced may (held_after progress.held found) best last; counts = closed_more m options h.passes this h.counts closed refused words }
