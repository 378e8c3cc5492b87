-- What was printed of a run, by what was printed of its parts.
use Rattle.std.proofs.Common.{◌≡◌, ℕ, List, ◌++◌, Option, None, Result, Ok, Err, false, true, refl, sym, ap, ◌∙◌, subst, ◌⊎◌, inl, inr, arith}
use Rattle.std.specs.Prelude.{OnErr, OnOk}
use Rattle.std.specs.Result.{is_err}
use Rattle.best_ledger.specs.Right.{BestRun}
use Rattle.dp_model.specs.declared.answers.Claim.{Claim}
use Rattle.dp_model.specs.declared.answers.Found.{Found}
use Rattle.dp_model.specs.declared.whole.Model.{Model}
use Rattle.dp_outside.proofs.Steps.{Takes-more}
use Rattle.dp_outside.specs.Outside.{Takes, TakesFront}
use Rattle.dp_outside.specs.declared.failing.Failed.{Failed}
use Rattle.run_ends.specs.Claims.{claim_with, solved_by}
use Rattle.run_ends.specs.declared.solved.Solved.{Solved}
use Rattle.run_ends.specs.declared.status.Status.{Status}
use Rattle.run_ends.specs.declared.status.Status.TheVariants as statuses
use Rattle.solve_best.specs.Texts.{IsPrinted, claim_of, ending_status, ending_text, front_text}
use Rattle.solve_report.proofs.Written.{TakesFront-append, TakesFront-longer}

-- what is known where a call failed
pub of_err : {P : Type 0} (r : Result (Unit {0}) Failed) → true ≡ is_err r → OnErr r P → P
of_err (Ok done) failed known = absurd (grind (arith, failed))
of_err (Err e) failed known = known

-- what is known where a call did not fail
pub of_ok : {P : Type 0} (r : Result (Unit {0}) Failed) → false ≡ is_err r → OnOk r P → P
of_ok (Ok done) well known = known
of_ok (Err e) well known = absurd (grind (arith, well))

module _ (m : Model) (run : BestRun) (before mid after : Option (List ℕ)) where
  abbrev front : List ℕ
  front = front_text m run.found run.visited

  abbrev ending : List ℕ
  ending = ending_text m run.ending

  -- a write of what stands before the end failed
  pub front_failed : (solved : Solved) → TakesFront before after front → solved ≡ solved_by statuses.WriteFault None → IsPrinted m run before after solved
  front_failed solved short known = subst (IsPrinted m run before after) (sym known) (inr (refl, TakesFront-longer before after front ending short, refl))

  -- after a failed write nothing is claimed
  unclaimed : (status : Status) (last : Option Found) → status ≡ statuses.WriteFault → claim_with status last ≡ None
  unclaimed status last fault = ap (λ (s : Status). claim_with s last) fault

  -- the end was printed, or a write of it failed
  pub ended : (status : Status) (solved : Solved) → Takes before mid front →
      ((status ≡ ending_status run.ending) × Takes mid after ending) ⊎ ((status ≡ statuses.WriteFault) × TakesFront mid after ending) →
      solved ≡ solved_by status run.found → IsPrinted m run before after solved
  ended status solved took told known = subst (IsPrinted m run before after) (sym known) (elim told [
    | inl h ↦ inl (h.0, Takes-more before mid after front ending took h.1, ap (λ (s : Status). claim_with s run.found) h.0)
    | inr h ↦ inr (h.0, TakesFront-append before mid after front ending took h.1, unclaimed status run.found h.0)
  ])
