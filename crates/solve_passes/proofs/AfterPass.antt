-- What follows a closed pass, by what the schedule answers.
use Rattle.std.proofs.Common.{◌≡◌, ℕ, ◌*◌, ◌<◌, ◌&&◌, inl, inr, Bool, true, false, cond, List, ◌++◌, refl, sym, ap, ◌∙◌, subst, Option, Some, None, ℤ, ◌≤ℤ◌, nat_eq, nat_lt, arith}
use Rattle.std.specs.Prelude.{IfNone, IfSome, int_le}
use Rattle.std.proofs.lemmas.Bool.Decides.{nat_tests}
use Rattle.std.proofs.lemmas.Int.{ints}
use Rattle.dp_model.specs.Costs.{order_word}
use Rattle.dp_model.specs.declared.answers.Cause.{Cause}
use Rattle.dp_model.specs.declared.answers.Found.{Found}
use Rattle.dp_model.specs.declared.answers.Verdict.TheVariants as verdicts
use Rattle.dp_model.specs.declared.whole.Model.{Model}
use Rattle.dp_outside.proofs.Steps.{Takes-more}
use Rattle.dp_outside.specs.Outside.{Takes}
use Rattle.solve_report.proofs.Written.{TakesFront-append}
use Rattle.run_ends.specs.declared.status.Status.{Status}
use Rattle.solve_passes.specs.Ongoing.{IsFollowed, IsTold, LosesNothing, going_on, halt_ending, held_cost, printed_bound, progress_after, summary_of, verdict_of}
use Rattle.solve_passes.specs.Records.{Ended}
use Rattle.solve_passes.specs.declared.progress.Printing.{Printing}
use Rattle.solve_passes.specs.declared.progress.Progress.{Progress}
use Rattle.solve_passes.specs.declared.progress.Tally.{Tally}
use Rattle.width_loop.specs.Gaps.{gap_turn, is_met, turn_by}
use Rattle.width_loop.specs.Turns.{verdict}
use Rattle.width_loop.specs.declared.gap.GapSummary.{GapSummary}
use Rattle.width_loop.specs.declared.schedule.Turn.{Turn}
use Rattle.width_loop.specs.declared.schedule.Turn.TheVariants.{Go, Optimal, Infeasible}

-- what a turn that ends a run says of the last pass
abbrev pub Says : Model → (dropped : ℕ) → (floor : Option ℤ) → (held : Option Found) → Turn → Type 0
Says m dropped floor held (Go share) = Unit {0}
Says m dropped floor held (Optimal cost) = LosesNothing m dropped floor held × (f : Found) × (held ≡ Some f) × (f.cost ≡ cost)
Says m dropped floor held Infeasible = LosesNothing m dropped floor held × (held ≡ None)

none_dropped : (dropped : ℕ) → nat_eq dropped 0 ≡ true → dropped ≡ 0
none_dropped dropped e = grind (arith, nat_tests)

both : (a b : Bool) → (a && b) ≡ true → (a ≡ true) × (b ≡ true)
both true b h = (refl, h)
both false b h = let clash : false ≡ true = h in absurd cc

some_dropped : (dropped : ℕ) → nat_lt 0 dropped ≡ true → 0 < dropped
some_dropped dropped e = grind (arith, nat_tests)

no_more : (a b : ℤ) → int_le a b ≡ true → a ≤ℤ b
no_more a b e = grind (arith, ints)

-- where floors say nothing
plainly : (m : Model) (share dropped : ℕ) (floor : Option ℤ) (held : Option Found) (t : Bool) → nat_eq dropped 0 ≡ t → Says m dropped floor held (cond t (verdict (held_cost held)) (Go (share * 2)))
plainly m share dropped floor None true e = (inl (none_dropped dropped e), refl)
plainly m share dropped floor (Some f) true e = (inl (none_dropped dropped e), f, refl, refl)
plainly m share dropped floor held false e = tt

by_floor : (m : Model) (share dropped : ℕ) (floor : ℤ) (f : Found) (t : Bool) → (nat_lt 0 dropped && is_met m.minimize m.join f.cost floor) ≡ t → Says m dropped (Some floor) (Some f) (turn_by (cond t (Some f.cost) None) share (record { dropped = dropped; best = Some f.cost }))
by_floor m share dropped floor f true e =
    let two = both (nat_lt 0 dropped) (is_met m.minimize m.join f.cost floor) e in
    (inr (some_dropped dropped two.0, no_more (order_word m.minimize m.join (Some f.cost)) (order_word m.minimize m.join (Some floor)) two.1), f, refl, refl)
by_floor m share dropped floor f false e = plainly m share dropped (Some floor) (Some f) (nat_eq dropped 0) refl

says : (m : Model) (share dropped : ℕ) (floor : Option ℤ) (held : Option Found) → Says m dropped floor held (gap_turn m.minimize m.join share (Some (summary_of dropped floor held)))
says m share dropped None held = plainly m share dropped None held (nat_eq dropped 0) refl
says m share dropped (Some floor) None = plainly m share dropped (Some floor) None (nat_eq dropped 0) refl
says m share dropped (Some floor) (Some f) = by_floor m share dropped floor f (nat_lt 0 dropped && is_met m.minimize m.join f.cost floor) refl

-- ---- a turn that ends a run

module _ (m : Model) (dropped share : ℕ) (floor best : Option ℤ) (held : Option Found) (now : Turn)
    (best_is : best ≡ held_cost held)
    (is : now ≡ gap_turn m.minimize m.join share (Some (record { dropped = dropped; least_floor = floor; best = best }))) where
  said : Says m dropped floor held now
  said =
      let summary : Option ℤ → GapSummary = λ (b : Option ℤ). record { dropped = dropped; least_floor = floor; best = b } in
      subst (Says m dropped floor held) (sym (is ∙ ap (λ (b : Option ℤ). gap_turn m.minimize m.join share (Some (summary b))) best_is)) (says m share dropped floor held)

  -- what is held is optimal
  pub ends_optimal : (printing : Printing) (before after : Option (List ℕ)) (status : Status) (cost told : ℤ) → now ≡ Optimal cost → told ≡ cost → IsTold printing m before after status None (Ended (verdicts.Optimal told)) →
      LosesNothing m dropped floor held × IsTold printing m before after status None (Ended (verdict_of held))
  ends_optimal printing before after status cost told e same h =
      let k : Says m dropped floor held (Optimal cost) = subst (Says m dropped floor held) e said in
      let cost_is : told ≡ k.1.cost = same ∙ sym k.3 in (
        k.0,
        subst (λ (o : Option Found). IsTold printing m before after status None (Ended (verdict_of o))) (sym k.2) (subst (λ (c : ℤ). IsTold printing m before after status None (Ended (verdicts.Optimal c))) cost_is h),
      )

  -- there is none
  pub ends_infeasible : (printing : Printing) (before after : Option (List ℕ)) (status : Status) → now ≡ Infeasible → IsTold printing m before after status None (Ended verdicts.Infeasible) →
      LosesNothing m dropped floor held × IsTold printing m before after status None (Ended (verdict_of held))
  ends_infeasible printing before after status e h =
      let k : Says m dropped floor held Infeasible = subst (Says m dropped floor held) e said in
      (k.0, subst (λ (o : Option Found). IsTold printing m before after status None (Ended (verdict_of o))) (sym k.1) h)

-- ---- a pass that was printed, and what followed it

module _ (printing : Printing) (m : Model) (before mid after : Option (List ℕ)) (old now : Progress) (tally : Tally) (found : Option Found)
    (is : now ≡ progress_after old found tally.visited) (lines : List ℕ)
    (told : Takes before mid lines) where
  -- it was closed
  pub closed : (new : Progress) (halt : Option Cause) (result : Option Status) → halt ≡ None →
      IfNone result ((0 < tally.dropped) × (new ≡ going_on m tally.dropped tally.least_floor now) × (after ≡ mid)) →
      IfSome result (λ status. LosesNothing m tally.dropped tally.least_floor now.held × IsTold printing m mid after status None (Ended (verdict_of now.held)) × (new.held ≡ now.held)) →
      IsFollowed lines printing m before after old new tally halt found result
  closed new halt None none goes ends =
      subst (λ (x : Option Cause). IsFollowed lines printing m before after old new tally x found None) (sym none)
      (goes.0, goes.1 ∙ ap (going_on m tally.dropped tally.least_floor) is, subst (λ (t : Option (List ℕ)). Takes before t lines) (sym goes.2) told)
  closed new halt (Some status) none goes ends =
      subst (λ (x : Option Cause). IsFollowed lines printing m before after old new tally x found (Some status)) (sym none)
      (inl (
        mid,
        Ended (verdict_of now.held),
        told,
        (subst (λ (p : Progress). LosesNothing m tally.dropped tally.least_floor p.held) is ends.0, ap (λ (p : Progress). Ended (verdict_of p.held)) is),
        ends.1,
        ends.2 ∙ ap (λ (p : Progress). p.held) is,
      ))

  -- it was halted
  pub halted : (halt : Option Cause) (cause : Cause) (status : Status) → halt ≡ Some cause → IsTold printing m mid after status (printed_bound (Some cause) now.bound) (halt_ending now.visited cause) → IsFollowed lines printing m before after old now tally halt found (Some status)
  halted halt cause status some h =
      subst (λ (x : Option Cause). IsFollowed lines printing m before after old now tally x found (Some status)) (sym some)
      (inl (
        mid,
        halt_ending now.visited cause,
        told,
        ap (λ (p : Progress). halt_ending p.visited cause) is,
        subst (λ (b : Option ℤ). IsTold printing m mid after status (printed_bound (Some cause) b) (halt_ending now.visited cause)) (ap (λ (p : Progress). p.bound) is) h,
        ap (λ (p : Progress). p.held) is,
      ))

-- ---- a pass behind what it announced

pub led : (front lines : List ℕ) (printing : Printing) (m : Model) (before mid after : Option (List ℕ)) (old new : Progress) (tally : Tally) (halt : Option Cause) (found : Option Found) (result : Option Status) → Takes before mid front →
    IsFollowed lines printing m mid after old new tally halt found result → IsFollowed (front ++ lines) printing m before after old new tally halt found result
led front lines printing m before mid after old new tally halt found None took h = (h.0, h.1, Takes-more before mid after front lines took h.2)
led front lines printing m before mid after old new tally halt found (Some status) took (inl h) = inl (h.0, h.1, Takes-more before mid h.0 front lines took h.2, h.3, h.4, h.5)
led front lines printing m before mid after old new tally halt found (Some status) took (inr h) = inr (h.0, TakesFront-append before mid after front lines took h.1)
