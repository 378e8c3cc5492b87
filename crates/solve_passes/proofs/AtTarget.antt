-- The record of a target that is not an inner state, or that meets a fault.
use Rattle.std.proofs.Common.{◌≡◌, ℕ, Bool, true, false, List, [], ◌∷◌, ◌++◌, refl, sym, ap, ◌∙◌, subst, Option, Some, None, ℤ, ◌⊎◌, inl, inr, Ok, Err, arith, fold}
use Rattle.std.proofs.lemmas.Int.{ints}
use Rattle.std.proofs.lemmas.List.{append-nil}
use Rattle.dp_model.specs.Costs.{InRange, IsBetter, better_of}
use Rattle.dp_model.specs.declared.answers.FaultKind.{FaultKind}
use Rattle.dp_model.specs.declared.answers.Found.{Found}
use Rattle.dp_model.specs.declared.answers.Options.{Options}
use Rattle.dp_model.specs.declared.answers.Spot.{Spot}
use Rattle.dp_model.specs.declared.answers.Verdict.{Verdict}
use Rattle.dp_model.specs.declared.answers.Verdict.TheVariants as verdicts
use Rattle.dp_model.specs.declared.parts.PlainState.{PlainState}
use Rattle.dp_model.specs.declared.whole.Model.{Model}
use Rattle.dp_outside.proofs.Steps.{Takes-more}
use Rattle.dp_outside.specs.Outside.{Takes, TakesFront}
use Rattle.dp_steps.specs.Faults.{MeetsIn}
use Rattle.dp_steps.specs.Lists.{Solution}
use Rattle.dp_steps.specs.States.{Base, Forbidden, Inner}
use Rattle.run_ends.specs.Claims.{claim_with, solved_by}
use Rattle.pass_run.proofs.Places.{none_there}
use Rattle.solve_passes.proofs.Announces.{nothing_announced}
use Rattle.solve_passes.proofs.Concluding.{claimed, unclaimed}
use Rattle.solve_passes.proofs.Counted.{none_counted}
use Rattle.solve_passes.specs.Ongoing.{Concluded, IsTold}
use Rattle.solve_passes.specs.Records.{Record, Ending, Ended, OutOfMemory, KeepsWord, RightBound, RightEnding, claim_of, ending_status, ending_text, found_text, record_text}
use Rattle.solve_passes.specs.declared.progress.Printing.{Printing}
use Rattle.solve_passes.specs.declared.progress.Printing.TheVariants.{All, VerdictAlone}
use Rattle.run_ends.specs.declared.status.Status.{Status}
use Rattle.run_ends.specs.declared.status.Status.TheVariants as statuses
use Rattle.solve_report.proofs.Written.{TakesFront-append, TakesFront-longer}
use Rattle.solve_report.specs.Lines.{solution_text}
use Rattle.state_layout.specs.declared.node.Node.{Node}
use Rattle.successors.specs.Answers.{Met}
use Rattle.successors.specs.Starts.{start_at}
use Rattle.successors.specs.declared.starts.Start.{Start}
use Rattle.successors.specs.declared.starts.Start.TheVariants as starts
use Rattle.visit_laws.proofs.Starts.{start_base, start_faults, start_forbidden, start_open}

-- ---- states

-- a state has one base cost
one_cost : (m : Model) (s : PlainState) (a b : ℤ) → Base m s a → Base m s b → a ≡ b
one_cost m s a b x y =
    let costs = sym x.best.2 ∙ y.best.2 in
    let first : x.best.0 ≡ y.best.0 = cc in
    let others : x.best.1 ≡ y.best.1 = cc in
    x.best.3 ∙ ap (λ (c : ℤ). fold (better_of m.minimize) c x.best.1) first ∙ ap (λ (cs : List ℤ). fold (better_of m.minimize) y.best.0 cs) others ∙ sym y.best.3

-- no state is base and inner
base_not_inner : (m : Model) (s : PlainState) (a : ℤ) → Base m s a → Inner m s → ⊥
base_not_inner m s a x y = cc (sym x.best.2 ∙ y.open_cases)

-- nor forbidden and inner
forbidden_not_inner : (m : Model) (s : PlainState) → Forbidden m s → Inner m s → ⊥
forbidden_not_inner m s x y = cc (sym x ∙ y.allowed)

-- nor forbidden and base
forbidden_not_base : (m : Model) (s : PlainState) (a : ℤ) → Forbidden m s → Base m s a → ⊥
forbidden_not_base m s a x y = cc (sym x ∙ y.allowed)

-- ---- what the target is found to be

pub inner_start : (m : Model) (prune : Bool) (start : Start) (n : Node) → start_at m prune ≡ Ok start → start ≡ starts.Open n → Inner m m.target
inner_start m prune start n e is = ((start_open m prune n).0 (e ∙ ap Ok is)).0

pub base_start : (m : Model) (prune : Bool) (start : Start) (cost : ℤ) → start_at m prune ≡ Ok start → start ≡ starts.Base cost → Base m m.target cost
base_start m prune start cost e is = (start_base m prune cost).0 (e ∙ ap Ok is)

pub forbidden_start : (m : Model) (prune : Bool) (start : Start) → start_at m prune ≡ Ok start → start ≡ starts.NotAllowed → Forbidden m m.target
forbidden_start m prune start e is = (start_forbidden m prune).0 (e ∙ ap Ok is)

pub fault_start : (m : Model) (options : Options) (prune : Bool) (met : Met) → prune ≡ options.prune → start_at m prune ≡ Err met → MeetsIn m options.prune None m.target met.spot met.kind
fault_start m options prune met same e = subst (λ (p : Bool). MeetsIn m p None m.target met.spot met.kind) same ((start_faults m prune met).0 e).2

-- ---- lists of steps

not_better_itself : (minimize : Bool) (a b : ℤ) → a ≡ b → IsBetter minimize a b → ⊥
not_better_itself true a b same less = omega (arith, ints, same, less)
not_better_itself false a b same less = omega (arith, ints, same, less)

-- from a base target no list is better than the one without steps
none_better : (m : Model) (cost : ℤ) (steps : List ℕ) (other : ℤ) → Base m m.target cost → Solution m steps other → IsBetter m.minimize other cost → ⊥
none_better m cost [] other base s better = not_better_itself m.minimize other cost (one_cost m m.target other cost s.completes base) better
none_better m cost (g ∷ steps) other base s better = base_not_inner m m.target cost base s.completes.3.inner

-- and that one is legal
no_steps : (m : Model) (steps : List ℕ) (cost : ℤ) → Base m m.target cost → InRange cost → steps ≡ [] → Solution m steps cost
no_steps m (g ∷ steps) cost base within short = absurd (cc (short))
no_steps m [] cost base within short = record { reaches = (m.target, None, cost, (refl, refl), base); completes = base; in_range = within }

-- from a forbidden target no list is legal
none_legal : (m : Model) (steps : List ℕ) (cost : ℤ) → Forbidden m m.target → Solution m steps cost → ⊥
none_legal m [] cost forbidden s = forbidden_not_base m m.target cost forbidden s.completes
none_legal m (g ∷ steps) cost forbidden s = forbidden_not_inner m m.target forbidden s.completes.3.inner

-- ---- a base target

text_at_target : (printing : Printing) (m : Model) (found : Found) (end : Ending) → record_text printing m (record { at_target = Some found; passes = []; bound = None; ending = end }) ≡ found_text printing m (Some found) ++ ending_text m end
text_at_target (All announce) m found end = ap (λ (t : List ℕ). t ++ ending_text m end) (append-nil (solution_text m found))
text_at_target VerdictAlone m found end = refl

-- with no pass there is no bound
no_bound : (m : Model) (options : Options) (gap : Bool) (target : Option Found) (end : Ending) → RightBound m options gap (record { at_target = target; passes = []; bound = None; ending = end }) None
no_bound m options gap target end needs = omega (arith, needs.2)

module _ (m : Model) (options : Options) (gap : Bool) (printing : Printing) (before after : Option (List ℕ)) (found : Found) (cost : ℤ)
    (at_target : Base m m.target cost) (in_range : InRange cost) (same : found.cost ≡ cost) (short : found.steps ≡ []) where
  base : Base m m.target found.cost
  base = subst (Base m m.target) (sym same) at_target

  within : InRange found.cost
  within = subst InRange (sym same) in_range

  abbrev run_of : Ending → Record
  run_of end = record { at_target = Some found; passes = []; bound = None; ending = end }

  -- the run is over, with a right ending
  ended : (status : Status) (last : Option Found) (end : Ending) → RightEnding m options gap (run_of end) end → KeepsWord m options None end →
      ((status ≡ ending_status end) × Takes before after (found_text printing m (Some found) ++ ending_text m end) × (claim_with status last ≡ claim_of (run_of end)))
      ⊎ ((status ≡ statuses.WriteFault) × TakesFront before after (found_text printing m (Some found) ++ ending_text m end) × (claim_with status last ≡ None)) →
      Concluded m options gap printing before after (solved_by status last)
  ended status last end right word printed = record {
    run = run_of end;
    announcing = λ k p at. absurd (none_there k p at);
    right = record {
      numbered = tt;
      dropping = tt;
      within_budget = omega arith;
      reached = tt;
      legal = (no_steps m found.steps found.cost base within short, tt);
      improving = tt;
      announced = nothing_announced m end;
      base_target = (refl, (found.cost, base));
      bound = no_bound m options gap (Some found) end;
      ending = right;
    };
    counted = none_counted m options (Some found) end;
    word = word;
    printed = subst (λ (t : List ℕ). ((status ≡ ending_status end) × Takes before after t × (claim_with status last ≡ claim_of (run_of end))) ⊎ ((status ≡ statuses.WriteFault) × TakesFront before after t × (claim_with status last ≡ None)))
        (sym (text_at_target printing m found end)) printed;
  }

  -- a write of the solution failed
  pub failed_solution : TakesFront before after (found_text printing m (Some found)) → Concluded m options gap printing before after (solved_by statuses.WriteFault None)
  failed_solution front = ended statuses.WriteFault None OutOfMemory tt tt (inr (refl, TakesFront-longer before after (found_text printing m (Some found)) (ending_text m OutOfMemory) front, refl))

  -- the solution was printed, and then that it is optimal
  pub optimal : (mid : Option (List ℕ)) (status : Status) → Takes before mid (found_text printing m (Some found)) → IsTold printing m mid after status None (Ended (verdicts.Optimal found.cost)) → Concluded m options gap printing before after (solved_by status (Some found))
  optimal mid status told printed = ended status (Some found) (Ended (verdicts.Optimal found.cost)) right
      (λ trusted steps other s better. none_better m found.cost steps other base s better)
      (elim printed [
        | inl h ↦ inl (
          h.0,
          Takes-more before mid after (found_text printing m (Some found)) (ending_text m (Ended (verdicts.Optimal found.cost))) told h.1,
          ap (λ (s : Status). claim_with s (Some found)) h.0,
        )
        | inr h ↦ inr (
          h.0,
          TakesFront-append before mid after (found_text printing m (Some found)) (ending_text m (Ended (verdicts.Optimal found.cost))) told h.1,
          unclaimed status (Some found) h.0,
        )
      ])
    where
      right : RightEnding m options gap (run_of (Ended (verdicts.Optimal found.cost))) (Ended (verdicts.Optimal found.cost))
      right = ((refl, inr (inr (refl, (found.cost, base)))), λ _ inner. base_not_inner m m.target found.cost base inner)

-- ---- a run without a pass and without a solution

bare_text : (printing : Printing) (m : Model) (end : Ending) → record_text printing m (record { at_target = None; passes = []; bound = None; ending = end }) ≡ ending_text m end
bare_text (All announce) m end = refl
bare_text VerdictAlone m end = refl

module _ (m : Model) (options : Options) (gap : Bool) (printing : Printing) (before after : Option (List ℕ)) (status : Status) where
  abbrev bare_run : Ending → Record
  bare_run end = record { at_target = None; passes = []; bound = None; ending = end }

  bare : (end : Ending) → RightEnding m options gap (bare_run end) end → KeepsWord m options None end → IsTold printing m before after status None end → Concluded m options gap printing before after (solved_by status None)
  bare end right word told = record {
    run = bare_run end;
    announcing = λ k p at. absurd (none_there k p at);
    right = record { numbered = tt; dropping = tt; within_budget = omega arith; reached = tt; legal = tt; improving = tt; announced = nothing_announced m end; base_target = tt; bound = no_bound m options gap None end; ending = right };
    counted = none_counted m options None end;
    word = word;
    printed = subst (λ (t : List ℕ). ((status ≡ ending_status end) × Takes before after t × (claim_with status None ≡ claim_of (bare_run end))) ⊎ ((status ≡ statuses.WriteFault) × TakesFront before after t × (claim_with status None ≡ None)))
        (sym (bare_text printing m end))
        (elim told [
          | inl h ↦ inl (h.0, h.1, ap (λ (s : Status). claim_with s None) h.0 ∙ claimed m options gap (bare_run end) None end right)
          | inr h ↦ inr (h.0, h.1, unclaimed status None h.0)
        ]);
  }

  -- the target is not allowed
  pub forbidden_target : Forbidden m m.target → IsTold printing m before after status None (Ended verdicts.Infeasible) → Concluded m options gap printing before after (solved_by status None)
  forbidden_target forbidden told = bare (Ended verdicts.Infeasible) ((refl, inr (refl, forbidden)), λ _ inner. forbidden_not_inner m m.target forbidden inner) (λ trusted steps cost s. none_legal m steps cost forbidden s) told

  -- the target meets a fault
  pub fault_target : (met : Met) (verdict : Verdict) (spot : Spot) (kind : FaultKind) → MeetsIn m options.prune None m.target met.spot met.kind → verdict ≡ verdicts.Fault (record { steps = []; spot = spot; kind = kind }) → spot ≡ met.spot → kind ≡ met.kind → IsTold printing m before after status None (Ended verdict) →
      Concluded m options gap printing before after (solved_by status None)
  fault_target met verdict spot kind meets is same_spot same_kind told =
      let fault : Spot → FaultKind → Verdict = λ s k. verdicts.Fault (record { steps = []; spot = s; kind = k }) in
      let same : verdict ≡ fault met.spot met.kind = is ∙ ap (λ (s : Spot). fault s kind) same_spot ∙ ap (fault met.spot) same_kind in
      bare (Ended (fault met.spot met.kind)) ((m.target, None, (refl, refl), meets), λ _ none. none) tt (subst (λ (v : Verdict). IsTold printing m before after status None (Ended v)) same told)

  -- memory ran out before the first pass
  pub no_memory : IsTold printing m before after status None OutOfMemory → Concluded m options gap printing before after (solved_by status None)
  no_memory told = bare OutOfMemory tt tt told
