-- Runs of best-first searches: which are right, and which are not.
use Rattle.std.proofs.Common.{◌≡◌, ℕ, ◌<◌, ◌≤◌, zero, suc, true, false, inl, inr, List, [], ◌∷◌, length, Option, Some, None, refl, sym, ap, subst, ◌∙◌, arith}
use Rattle.std.specs.Prelude.{ℤ, pos, ◌≤ℤ◌, ◌<ℤ◌}
use Rattle.std.proofs.lemmas.Int.{ints}
use Rattle.dp_claims.specs.Enough.{IsLean}
use Rattle.dp_model.specs.declared.answers.FaultKind.TheVariants.{ZeroDivisor}
use Rattle.dp_model.specs.declared.answers.Found.{Found}
use Rattle.dp_model.specs.declared.answers.Keep.TheVariants as keeps
use Rattle.dp_model.specs.declared.answers.Verdict.TheVariants as verdicts
use Rattle.dp_model.specs.declared.parts.PlainState.{PlainState}
use Rattle.dp_model.specs.declared.whole.Model.{Model}
use Rattle.dp_steps.specs.Lists.{Solution}
use Rattle.dp_steps.specs.States.{Base, Inner}
use Rattle.pass_ledger.specs.Ladder.{ladder}
use Rattle.pass_ledger.specs.TwoWays.{at, is_at}
use Rattle.pass_ledger.specs.Passes.{word_of}
use Rattle.pass_ledger.specs.Worked.{plain, alone, word_3}
use Rattle.pass_ledger.specs.WorkedFault.{faulty, split, split_typed}
use Rattle.pass_ledger.specs.WorkedFloors.{bounded, one, one_typed}
use Rattle.pass_ledger.proofs.Ladder.{ladder_law}
use Rattle.pass_ledger.proofs.Lists.{different_one}
use Rattle.pass_ledger.proofs.Moves.{inner_not_base, step_same}
use Rattle.pass_ledger.proofs.TwoWays.{inner_at, base_at, p_step, q_step, e_step, d_step, value_fixed, value_at, one_true}
use Rattle.pass_ledger.proofs.Worked.{best_way, has_one, has_two, in_range, small, none_is, some_is}
use Rattle.pass_ledger.proofs.WorkedEnough.{zero_one}
use Rattle.pass_ledger.proofs.WorkedFault.{worked_fault}
use Rattle.pass_ledger.proofs.WorkedFloors.{honest}
use Rattle.ledger_guards.specs.Shuttle.{idle}
use Rattle.ledger_guards.proofs.Shuttle.{inner_at as idle_inner, path_stops, there, there_step}
use Rattle.best_ledger.specs.Enough.{IsPriced, ArePriced, IsAtMostPriced}
use Rattle.best_ledger.specs.Right.{Ended, KeepsWordBest, RightBest}
use Rattle.best_ledger.proofs.WorkedEnough.{three_enough, two_below}
use Rattle.best_guards.specs.Runs.{options, of_11, of_3, of_0, run, faulted, ended, LawWorkedRuns, LawWorkedWords}

-- ---- both lists of the worked model

pub list_11 : Solution plain (0 ∷ 2 ∷ []) (pos 11)
list_11 =
    record {
      reaches = (
        at 3,
        Some (pos 11),
        pos 0,
        (at 1, Some (pos 1), p_step [] refl refl, in_range 1 (small 1 (omega arith)), (at 3, Some (pos 10), e_step [] refl refl, in_range 11 (small 11 (omega arith)), (refl, refl))),
        base_at [] refl refl,
      );
      completes = (at 1, Some (pos 1), pos 10, p_step [] refl refl, (at 3, Some (pos 10), pos 0, e_step [] refl refl, base_at [] refl refl, refl), refl);
      in_range = in_range 11 (small 11 (omega arith));
    }

pub list_3 : Solution plain (1 ∷ 3 ∷ []) (pos 3)
list_3 =
    record {
      reaches = (
        at 3,
        Some (pos 3),
        pos 0,
        (at 2, Some (pos 2), q_step [] refl refl, in_range 2 (small 2 (omega arith)), (at 3, Some (pos 1), d_step [] refl refl, in_range 3 (small 3 (omega arith)), (refl, refl))),
        base_at [] refl refl,
      );
      completes = (at 2, Some (pos 2), pos 1, q_step [] refl refl, (at 3, Some (pos 1), pos 0, d_step [] refl refl, base_at [] refl refl, refl), refl);
      in_range = in_range 3 (small 3 (omega arith));
    }

bounded_3 : Solution bounded (1 ∷ 3 ∷ []) (pos 3)
bounded_3 =
    record {
      reaches = (
        at 3,
        Some (pos 3),
        pos 0,
        (at 2, Some (pos 2), q_step one one_typed refl, in_range 2 (small 2 (omega arith)), (at 3, Some (pos 1), d_step one one_typed refl, in_range 3 (small 3 (omega arith)), (refl, refl))),
        base_at one one_typed refl,
      );
      completes = (at 2, Some (pos 2), pos 1, q_step one one_typed refl, (at 3, Some (pos 1), pos 0, d_step one one_typed refl, base_at one one_typed refl, refl), refl);
      in_range = in_range 3 (small 3 (omega arith));
    }

-- the second transition alone leads to an inner state
no_way : (cost : ℤ) → Solution plain (1 ∷ []) cost → ⊥
no_way cost s =
    let h = s.completes in
    let same = step_same plain (at 0) 1 (Some (pos 2)) h.1 (at 2) h.0 (q_step [] refl refl) h.3 in
    inner_not_base plain h.0 h.2 (subst (λ (x : PlainState). Inner plain x) same.1 (inner_at [] refl refl 2 refl)) h.4

-- ---- the list without steps

ended_base : Base ended (at 3) (pos 0)
ended_base = record { allowed = refl; best = (pos 0, [], rw (one_true ended (at 3) [] (is_at 3) true (value_at ended (at 3) [] 3), value_fixed ended (at 3) [] (pos 0)) refl, refl) }

list_0 : Solution ended [] (pos 0)
list_0 = record { reaches = (at 3, None, pos 0, (refl, refl), ended_base); completes = ended_base; in_range = in_range 0 (small 0 (omega arith)) }

-- ---- pairs of a state and the cost so far of a lean path to it

none_before : (i j : ℕ) → i < j → j ≤ 0 → ⊥
none_before i j lt le = absurd (omega (arith, lt, le))

no_step : (m : Model) → IsLean m []
no_step m i j s cost later lt le first second = absurd (none_before i j lt le)

none_long : (n : ℕ) → 0 ≡ suc n → ⊥
none_long n e = absurd (omega (arith, e))

-- no more than the first so many
fewer : (n : ℕ) (pairs : List (PlainState × Option ℤ)) → ArePriced plain pairs → length pairs ≡ suc n → IsAtMostPriced plain n
fewer n [] are e = absurd (none_long n e)
fewer n (x ∷ xs) are e = (xs, record { different = are.different.1; each = λ q h. are.each q (suc h.0, h.1) }, one_less (length xs) e)
  where
    one_less : (k : ℕ) → suc k ≡ suc n → k ≡ n
    one_less k e = omega (arith, e)

pub three_priced : IsAtMostPriced plain 3
three_priced = two_below

pub two_priced : IsAtMostPriced plain 2
two_priced = fewer 2 three_priced.0 three_priced.1 three_priced.2

pub one_priced : IsAtMostPriced plain 1
one_priced = fewer 1 two_priced.0 two_priced.1 two_priced.2

-- the target, without a cost so far
abbrev unpriced : PlainState × Option ℤ
unpriced = (at 0, None)

pub faulty_target : IsAtMostPriced faulty 1
faulty_target = (unpriced ∷ [], record { different = different_one unpriced; each = λ q h. subst (IsPriced faulty) (has_one unpriced q h) ([], (refl, refl), inner_at (split ∷ []) split_typed refl 0 refl, no_step faulty) }, refl)

-- the step of the idle shuttle leads to another state
none_after : (i j : ℕ) → suc i < j → j ≤ 1 → ⊥
none_after i j lt le = absurd (omega (arith, lt, le))

none_far : (j : ℕ) → suc (suc j) ≤ 1 → ⊥
none_far j le = absurd (omega (arith, le))

there_lean : IsLean idle (0 ∷ [])
there_lean zero zero s cost later lt le first second = absurd (omega (arith, lt))
there_lean zero (suc zero) s cost later lt le first second =
    let same = step_same idle (at 0) 0 (Some (pos 0)) second.1 (at 1) second.0 (there_step true 0 refl) second.2 in
    absurd (zero_one (first.0 ∙ sym second.4.0 ∙ sym same.1))
there_lean zero (suc (suc j)) s cost later lt le first second = absurd (none_far j le)
there_lean (suc i) j s cost later lt le first second = absurd (none_after i j lt le)

abbrev other_side : PlainState × Option ℤ
other_side = (at 1, Some (pos 0))

idle_priced : IsAtMostPriced idle 2
idle_priced = (
  unpriced ∷ other_side ∷ [],
  record {
    different = (λ h. zero_one (sym (ap (λ (x : PlainState × Option ℤ). x.0) (has_one other_side unpriced h))), different_one other_side);
    each = λ q h. elim (has_two unpriced other_side q h) [
      | inl e ↦ subst (IsPriced idle) e ([], (refl, refl), idle_inner true 0 refl 0 refl, no_step idle)
      | inr e ↦ subst (IsPriced idle) e (0 ∷ [], there, idle_inner true 0 refl 1 refl, there_lean)
    ];
  },
  refl,
)

-- no state that the shuttle comes to is base
idle_no_list : (steps : List ℕ) (cost : ℤ) → Solution idle steps cost → ⊥
idle_no_list steps cost s =
    let r = s.reaches in
    elim (path_stops true 0 refl steps r.0 r.1 r.3) [
      | inl e ↦ inner_not_base idle r.0 r.2 (subst (Inner idle) e (idle_inner true 0 refl 0 refl)) r.4
      | inr e ↦ inner_not_base idle r.0 r.2 (subst (Inner idle) e (idle_inner true 0 refl 1 refl)) r.4
    ]

-- ---- runs that are right

none_told : (n : ℕ) → Some n ≡ None → ⊥
none_told n e = cc

optimal : RightBest plain (options 3 false) (run (Some of_3) (Some 3) (verdicts.Optimal (pos 3)))
optimal = record { within_budget = omega arith; reached = three_priced; legal = list_3; ending = ((of_3, refl, refl), λ none needs. none_told 3 none) }

infeasible : RightBest idle (options 3 false) (run None (Some 2) verdicts.Infeasible)
infeasible = record { within_budget = omega arith; reached = idle_priced; legal = tt; ending = (refl, λ none needs. none_told 2 none) }

stopped : RightBest plain (options 2 false) (run (Some of_11) (Some 2) (verdicts.Stopped 2))
stopped = record { within_budget = omega arith; reached = two_priced; legal = list_11; ending = ((refl, refl, two_below), λ none needs. none_told 2 none) }

met_a_fault : RightBest faulty (options 3 true) (run None (Some 1) (verdicts.Fault faulted))
met_a_fault = record { within_budget = omega arith; reached = faulty_target; legal = tt; ending = (worked_fault.met, λ none needs. needs) }

needs_no_search : RightBest ended (options 3 false) (run (Some of_0) None (verdicts.Optimal (pos 0)))
needs_no_search = record { within_budget = tt; reached = tt; legal = list_0; ending = ((of_0, refl, refl), λ none needs. inner_not_base ended (at 3) (pos 0) needs ended_base) }

-- ---- runs that are not right

inner_target : Inner plain (at 0)
inner_target = inner_at [] refl refl 0 refl

differ : pos 11 ≡ pos 3 → ⊥
differ e = absurd (omega (arith, ints, e))

another_cost : (s : Found) → Some of_11 ≡ Some s → s.cost ≡ pos 3 → ⊥
another_cost s is e = differ (ap (λ (f : Found). f.cost) (some_is of_11 s is) ∙ e)

two_three : ◌≡◌ {A = ℕ} 2 3 → ⊥
two_three e = absurd (omega (arith, e))

one_two : ◌≡◌ {A = Option ℕ} (Some 1) (Some 2) → ⊥
one_two e = no (some_is 1 2 e)
  where
    no : ◌≡◌ {A = ℕ} 1 2 → ⊥
    no e = absurd (omega (arith, e))

three_two : 3 ≤ 2 → ⊥
three_two le = absurd (omega (arith, le))

pub worked_runs : LawWorkedRuns
worked_runs =
    record {
      optimal = optimal;
      infeasible = infeasible;
      stopped = stopped;
      met_a_fault = met_a_fault;
      out_of_memory = record { within_budget = tt; reached = tt; legal = list_11; ending = tt };
      needs_no_search = needs_no_search;
      optimal_without_search = λ h. h.ending.1 refl inner_target;
      infeasible_without_search = λ h. h.ending.1 refl (idle_inner true 0 refl 0 refl);
      stopped_without_search = λ h. h.ending.1 refl inner_target;
      another_cost = λ h. another_cost h.ending.0.0 h.ending.0.1 h.ending.0.2;
      no_solution = λ h. none_is h.ending.0.0 h.ending.0.1;
      a_solution = λ h. none_is of_11 (sym h.ending.0);
      stopped_early = λ h. two_three h.ending.0.0;
      told_fewer = λ h. one_two h.ending.0.1;
      enough = λ h. three_enough h.ending.0.2;
      over_budget = λ h. three_two h.within_budget;
      too_many = λ h. three_enough h.reached;
      no_list = λ h. no_way (pos 3) h.legal;
      met_none = λ h. worked_fault.with_pruning_off (1 ∷ []) 0 ZeroDivisor h.ending.0;
      replayed = λ h. h.ending.0;
    }

-- ---- what verdicts say

better : pos 3 <ℤ pos 11
better = omega (arith, ints)

best : KeepsWordBest plain (options 3 false) (Ended (verdicts.Optimal (pos 3)))
best trusted steps other list less = too_good other (best_way steps other list) less
  where
    too_good : (c : ℤ) → pos word_3 ≤ℤ word_of (alone 2) c → c <ℤ pos 3 → ⊥
    too_good c le lt = absurd (omega (arith, ints, le, lt))

-- with pruning on no verdict over the ladder is trusted
not_trusted : KeepsWordBest ladder (options 3 true) (Ended verdicts.Infeasible)
not_trusted (inl off) steps cost list = let no : true ≡ false = off in cc
not_trusted (inr honest) steps cost list = ladder_law.not_honest honest

pub worked_words : LawWorkedWords
worked_words =
    record {
      best = best;
      not_best = λ h. h (inl refl) (1 ∷ 3 ∷ []) (pos 3) list_3 better;
      not_infeasible = λ h. h (inl refl) (1 ∷ 3 ∷ []) (pos 3) list_3;
      infeasible = λ trusted steps cost list. idle_no_list steps cost list;
      not_trusted = not_trusted;
      without_pruning = λ h. h (inl refl) (0 ∷ 1 ∷ []) (pos 1) ladder_law.list;
      honest = λ h. h (inr (honest keeps.All)) (1 ∷ 3 ∷ []) (pos 3) bounded_3 better;
    }
