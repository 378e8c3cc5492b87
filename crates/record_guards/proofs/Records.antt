-- Records of the worked model: which are right, and which are not.
use Rattle.std.proofs.Common.{◌≡◌, ℕ, ◌+◌, ◌*◌, ◌^◌, ◌<◌, ◌≤◌, zero, suc, true, false, inl, inr, List, [], ◌∷◌, length, slice_get, Option, Some, None, refl, sym, ap, subst, arith}
use Rattle.std.specs.List.{AllByRecursion}
use Rattle.std.specs.Prelude.{IfSome, option_map, ℤ, pos, ◌≤ℤ◌, ◌<ℤ◌}
use Rattle.announce_laws.specs.Last.{Improving as ImprovingCosts}
use Rattle.std.proofs.lemmas.Int.{ints}
use Rattle.std.proofs.Math.Nat.{mul-le-mul_left, zero-lt-suc}
use Rattle.dp_claims.specs.Enough.{Has, ArePairs, AreOf, IsAtMostReached, IsBelowEnough}
use Rattle.dp_model.specs.declared.answers.FaultKind.TheVariants.{ZeroDivisor}
use Rattle.dp_model.specs.declared.answers.Found.{Found}
use Rattle.dp_model.specs.declared.answers.Keep.TheVariants as keeps
use Rattle.dp_model.specs.declared.answers.Verdict.TheVariants as verdicts
use Rattle.dp_model.specs.declared.parts.PlainState.{PlainState}
use Rattle.dp_model.specs.declared.whole.Model.{Model}
use Rattle.dp_steps.specs.Lists.{Solution}
use Rattle.dp_steps.specs.States.{Inner}
use Rattle.pass_ledger.specs.Ladder.{ladder}
use Rattle.pass_ledger.specs.Passes.{word_of}
use Rattle.pass_ledger.specs.TwoWays.{at}
use Rattle.pass_ledger.specs.Worked.{plain, alone, word_3}
use Rattle.pass_ledger.specs.WorkedEnough.{three_pairs}
use Rattle.pass_ledger.specs.WorkedFault.{faulty}
use Rattle.pass_ledger.proofs.Ladder.{ladder_law}
use Rattle.pass_ledger.proofs.Lists.{has_none}
use Rattle.pass_ledger.proofs.Moves.{inner_not_base, step_same}
use Rattle.pass_ledger.proofs.TwoWays.{inner_at, base_at, p_step, q_step, e_step, d_step}
use Rattle.pass_ledger.proofs.Worked.{best_way, has_two, in_range, small}
use Rattle.pass_ledger.proofs.WorkedEnough.{worked_enough}
use Rattle.pass_ledger.proofs.WorkedFault.{worked_fault}
use Rattle.pass_run.proofs.Places.{none_there}
use Rattle.pass_over.specs.Announcements.{last_or}
use Rattle.solve_passes.specs.Records.{Announced, Pass, Ending, Ended, OutOfMemory, Right, RightAnnounced, TellsBest, KeepsWord, announced_costs}
use Rattle.record_guards.specs.Records.{unpruned, pruned, of_11, pass, first, second, run, faulted, LawWorkedRecords, LawWorkedWords}

-- ---- both lists

pub list_11 : Solution plain (0 ∷ 2 ∷ []) (pos 11)
list_11 =
    record {
      reaches = (
        at 3,
        Some (pos 11),
        pos 0,
        (at 1, Some (pos 1), p_step [] refl refl, in_range 1 (small 1 (omega arith)), (at 3, Some (pos 10), e_step [] refl refl, in_range 11 (small 11 (omega arith)), (refl, refl))),
        base_at [] refl refl,
      );
      completes = (at 1, Some (pos 1), pos 10, p_step [] refl refl, (at 3, Some (pos 10), pos 0, e_step [] refl refl, base_at [] refl refl, refl), refl);
      in_range = in_range 11 (small 11 (omega arith));
    }

pub list_3 : Solution plain (1 ∷ 3 ∷ []) (pos 3)
list_3 =
    record {
      reaches = (
        at 3,
        Some (pos 3),
        pos 0,
        (at 2, Some (pos 2), q_step [] refl refl, in_range 2 (small 2 (omega arith)), (at 3, Some (pos 1), d_step [] refl refl, in_range 3 (small 3 (omega arith)), (refl, refl))),
        base_at [] refl refl,
      );
      completes = (at 2, Some (pos 2), pos 1, q_step [] refl refl, (at 3, Some (pos 1), pos 0, d_step [] refl refl, base_at [] refl refl, refl), refl);
      in_range = in_range 3 (small 3 (omega arith));
    }

-- the second transition alone leads to an inner state
no_way : (cost : ℤ) → Solution plain (1 ∷ []) cost → ⊥
no_way cost s =
    let h = s.completes in
    let same = step_same plain (at 0) 1 (Some (pos 2)) h.1 (at 2) h.0 (q_step [] refl refl) h.3 in
    inner_not_base plain h.0 h.2 (subst (λ (x : PlainState). Inner plain x) same.1 (inner_at [] refl refl 2 refl)) h.4

-- ---- how many nodes are come to

abbrev two_pairs : List (ℕ × PlainState)
two_pairs = (1, at 1) ∷ (1, at 2) ∷ []

two_are : ArePairs plain keeps.Layer two_pairs
two_are = let three = worked_enough.reached keeps.Layer in record { different = three.different.1; each = λ q h. three.each q (suc h.0, h.1) }

of_one : AreOf 1 two_pairs
of_one q h = elim (has_two (1, at 1) (1, at 2) q h) [ inl e ↦ ap (λ (x : ℕ × PlainState). x.0) (sym e) | inr e ↦ ap (λ (x : ℕ × PlainState). x.0) (sym e) ]

two_reached : IsAtMostReached plain keeps.Layer 2
two_reached = (two_pairs, two_are, refl)

three_reached : IsAtMostReached plain keeps.Layer 3
three_reached = (three_pairs, worked_enough.reached keeps.Layer, refl)

-- no more than three, since six visits are enough
not_four : IsAtMostReached plain keeps.Layer 4 → ⊥
not_four (pairs, are, long) = let e = worked_enough.enough keeps.Layer in within e.k e.r e.width (length pairs) (e.reached pairs are) (e.widest 1 two_pairs two_are of_one) e.doubled e.within long
  where
    within : (k r width n : ℕ) → n ≤ r → 2 ≤ width → width ≤ 2 ^ k → r * (k + 1) ≤ 6 → n ≡ 4 → ⊥
    within zero r width n a b c d e = absurd (omega (arith, b, c))
    within (suc k) r width n a b c d e = let more : r * 2 ≤ r * (suc k + 1) = mul-le-mul_left r (omega arith) in absurd (omega (arith, a, d, e, more))

-- five visits are not enough, and so four are not
four_below : IsBelowEnough plain keeps.Layer 4
four_below e = worked_enough.below keeps.Layer (record { r = e.r; width = e.width; k = e.k; reached = e.reached; widest = e.widest; doubled = e.doubled; within = up (e.r * (e.k + 1)) e.within })
  where
    up : (n : ℕ) → n ≤ 4 → n ≤ 5
    up n le = omega (arith, le)

-- ---- right records

false_true : false ≡ true → ⊥
false_true e = cc

not_empty : (p : Pass) (ps : List Pass) → p ∷ ps ≡ [] → ⊥
not_empty p ps e = cc

-- passes that announce nothing
no_costs : (ps : List Pass) → AllByRecursion (λ (p : Pass). p.announced ≡ None) ps → (k : ℕ) (p : Pass) → slice_get ps k ≡ Some p → TellsBest p
no_costs [] none k p at = absurd (none_there k p at)
no_costs (q ∷ ps) none zero p at = let is : q ≡ p = (let both : Some q ≡ Some p = at in cc) in subst TellsBest is (subst (λ (a : Option Announced). IfSome a (λ x. last_or None x.costs ≡ option_map (λ (f : Found). f.cost) q.found)) (sym none.0) tt)
no_costs (q ∷ ps) none (suc k) p at = no_costs ps none.1 k p at

silent : (m : Model) (ending : Ending) (ps : List Pass) → announced_costs ps ≡ [] → AllByRecursion (λ (p : Pass). p.announced ≡ None) ps → RightAnnounced m ending ps
silent m ending ps empty none =
    record {
      legal = λ c has. absurd (has_none c (subst (λ (xs : List ℤ). Has xs c) empty has));
      improving = subst (ImprovingCosts m.minimize None) (sym empty) tt;
      best = λ k p at _. no_costs ps none k p at;
    }

better : pos 3 <ℤ pos 11
better = omega (arith, ints)

two_passes : Right plain (unpruned 6) false (run (first ∷ second ∷ []) (verdicts.Optimal (pos 3)))
two_passes =
    record {
      numbered = (refl, refl, (refl, refl, tt));
      dropping = (zero-lt-suc 0, tt);
      within_budget = omega arith;
      reached = (two_reached, (three_reached, tt));
      legal = (list_11, (list_3, tt));
      improving = (better, tt);
      announced = silent plain (Ended (verdicts.Optimal (pos 3))) (first ∷ second ∷ []) refl (refl, (refl, tt));
      base_target = tt;
      bound = λ needs. false_true needs.1.0;
      ending = ((refl, inl refl), λ e. absurd (not_empty first (second ∷ []) e));
    }

stopped : Right plain (unpruned 4) false (run (first ∷ pass 2 2 2 0 None ∷ []) (verdicts.Stopped 4))
stopped =
    record {
      numbered = (refl, refl, (refl, refl, tt));
      dropping = (zero-lt-suc 0, tt);
      within_budget = omega arith;
      reached = (two_reached, (two_reached, tt));
      legal = (list_11, tt);
      improving = tt;
      announced = silent plain (Ended (verdicts.Stopped 4)) (first ∷ pass 2 2 2 0 None ∷ []) refl (refl, (refl, tt));
      base_target = tt;
      bound = λ needs. false_true needs.1.0;
      ending = ((refl, refl, four_below), λ e. absurd (not_empty first (pass 2 2 2 0 None ∷ []) e));
    }

met_a_fault : Right faulty (pruned keeps.Layer) false (run [] (verdicts.Fault faulted))
met_a_fault =
    record {
      numbered = tt;
      dropping = tt;
      within_budget = omega arith;
      reached = tt;
      legal = tt;
      improving = tt;
      announced = silent faulty (Ended (verdicts.Fault faulted)) [] refl tt;
      base_target = tt;
      bound = λ needs. false_true needs.1.0;
      ending = (worked_fault.met, λ none no. no);
    }

out_of_memory : Right plain (unpruned 6) false (record { at_target = None; passes = first ∷ []; bound = None; ending = OutOfMemory })
out_of_memory =
    record {
      numbered = (refl, refl, tt);
      dropping = tt;
      within_budget = omega arith;
      reached = (two_reached, tt);
      legal = (list_11, tt);
      improving = tt;
      announced = silent plain OutOfMemory (first ∷ []) refl (refl, tt);
      base_target = tt;
      bound = λ needs. false_true needs.1.0;
      ending = tt;
    }

-- ---- records that are not right

not_less : (a : ℤ) → a <ℤ a → ⊥
not_less a h = absurd (omega (arith, ints, h))

not_cost : Some (pos 3) ≡ Some (pos 11) → ⊥
not_cost e = differ cc
  where
    differ : pos 3 ≡ pos 11 → ⊥
    differ e = absurd (omega (arith, ints, e))

three_four : ◌≡◌ {A = ℕ} 3 4 → ⊥
three_four e = absurd (omega (arith, e))

one_two : ◌≡◌ {A = ℕ} 1 2 → ⊥
one_two e = absurd (omega (arith, e))

one_zero : ◌≡◌ {A = ℕ} 1 0 → ⊥
one_zero e = absurd (omega (arith, e))

five_four : 5 ≤ 4 → ⊥
five_four le = absurd (omega (arith, le))

none_below : 0 < 0 → ⊥
none_below lt = absurd (omega (arith, lt))

some_found : (f : Found) (fs : List Found) → f ∷ fs ≡ [] → ⊥
some_found f fs e = cc

ends_early : Right plain (unpruned 6) false (run (first ∷ []) (verdicts.Optimal (pos 11))) → ⊥
ends_early h =
    elim h.ending.0.1 [
      | inl e ↦ one_zero e
      | inr (inl uses) ↦ false_true uses.0
      | inr (inr none) ↦ not_empty first [] none.0
    ]

pub worked_records : LawWorkedRecords
worked_records =
    record {
      two_passes = two_passes;
      stopped = stopped;
      met_a_fault = met_a_fault;
      out_of_memory = out_of_memory;
      same_cost = λ h. not_less (pos 11) h.improving.0;
      first_cost = λ h. not_cost h.ending.0.0;
      stopped_early = λ h. three_four h.ending.0.0;
      told_fewer = λ h. three_four h.ending.0.0;
      enough = λ h. h.ending.0.2 (worked_enough.enough keeps.Layer);
      no_pass = λ h. h.ending.1 refl (inner_at [] refl refl 0 refl);
      same_share = λ h. one_two h.numbered.2.1;
      same_number = λ h. one_two h.numbered.2.0;
      ends_early = ends_early;
      goes_on = λ h. none_below h.dropping.0;
      not_infeasible = λ h. some_found of_11 [] h.ending.0.0;
      over_budget = λ h. five_four h.within_budget;
      too_many = λ h. not_four h.reached.0;
      no_list = λ h. no_way (pos 3) h.legal.1.0;
      met_none = λ h. worked_fault.with_pruning_off (1 ∷ []) 0 ZeroDivisor h.ending.0;
      replayed = λ h. h.ending.0;
    }

-- ---- what verdicts say

best : KeepsWord plain (unpruned 6) None (Ended (verdicts.Optimal (pos 3)))
best trusted steps other list less = too_good other (best_way steps other list) less
  where
    too_good : (c : ℤ) → pos word_3 ≤ℤ word_of (alone 2) c → c <ℤ pos 3 → ⊥
    too_good c le lt = absurd (omega (arith, ints, le, lt))

-- the ladder is not honest where all nodes cover, and with pruning on no verdict over it is trusted
not_trusted : KeepsWord ladder (pruned keeps.All) None (Ended verdicts.Infeasible)
not_trusted (inl off) steps cost list = let no : true ≡ false = off in cc
not_trusted (inr honest) steps cost list = ladder_law.not_honest honest

pub worked_words : LawWorkedWords
worked_words =
    record {
      best = best;
      not_best = λ h. h (inl refl) (1 ∷ 3 ∷ []) (pos 3) list_3 better;
      not_infeasible = λ h. h (inl refl) (1 ∷ 3 ∷ []) (pos 3) list_3;
      trusted = λ h. h (inr ladder_law.honest) (0 ∷ 1 ∷ []) (pos 1) ladder_law.list;
      not_trusted = not_trusted;
    }
