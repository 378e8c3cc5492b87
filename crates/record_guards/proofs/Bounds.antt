-- Bounds of records of the worked model.
use Rattle.std.proofs.Common.{◌≡◌, ◌≤◌, true, false, inl, inr, [], ◌∷◌, Some, refl, arith}
use Rattle.std.specs.Prelude.{ℤ, pos, ◌≤ℤ◌, ◌<ℤ◌}
use Rattle.std.proofs.lemmas.Int.{ints}
use Rattle.dp_model.specs.declared.answers.Keep.TheVariants as keeps
use Rattle.dp_model.specs.declared.answers.Verdict.TheVariants as verdicts
use Rattle.dp_steps.specs.Lists.{Solution}
use Rattle.gap_laws.specs.Gaps.{IsReachedFloor}
use Rattle.pass_ledger.specs.Passes.{word_of}
use Rattle.pass_ledger.specs.TwoWays.{at}
use Rattle.pass_ledger.specs.Worked.{word_3}
use Rattle.pass_ledger.specs.WorkedFloors.{one, one_typed, bounded, pruning}
use Rattle.pass_ledger.proofs.TwoWays.{base_at, d_step, inner_at, q_step}
use Rattle.pass_ledger.proofs.Worked.{in_range, small}
use Rattle.pass_ledger.proofs.WorkedFloors.{f2_from, honest}
use Rattle.pass_ledger.proofs.WorkedPruning.{pruning_law}
use Rattle.solve_passes.specs.Records.{Ended, KeepsWord}
use Rattle.record_guards.specs.Bounds.{LawWorkedBounds}
use Rattle.record_guards.specs.Records.{pruned}

false_true : false ≡ true → ⊥
false_true e = cc

two_in_one : 2 ≤ 1 → ⊥
two_in_one le = absurd (omega (arith, le))

-- the state 2 is come to at cost 2, and its floor is 3
floor_2 : IsReachedFloor bounded (pos 3)
floor_2 =
    (1 ∷ [], at 2, Some (pos 2), (at 2, Some (pos 2), q_step one one_typed refl, in_range 2 (small 2 (omega arith)), (refl, refl)), inner_at one one_typed refl 2 refl, f2_from.floor.1)

list_3 : Solution bounded (1 ∷ 3 ∷ []) (pos 3)
list_3 =
    record {
      reaches = (
        at 3,
        Some (pos 3),
        pos 0,
        (at 2, Some (pos 2), q_step one one_typed refl, in_range 2 (small 2 (omega arith)), (at 3, Some (pos 1), d_step one one_typed refl, in_range 3 (small 3 (omega arith)), (refl, refl))),
        base_at one one_typed refl,
      );
      completes = (at 2, Some (pos 2), pos 1, q_step one one_typed refl, (at 3, Some (pos 1), pos 0, d_step one one_typed refl, base_at one one_typed refl, refl), refl);
      in_range = in_range 3 (small 3 (omega arith));
    }

-- no list costs less than 3
holds : KeepsWord bounded (pruned keeps.Layer) (Some (pos 3)) (Ended (verdicts.Stopped 4))
holds trusted steps cost list less = too_good cost (pruning_law.3 steps cost list) less
  where
    too_good : (c : ℤ) → pos word_3 ≤ℤ word_of pruning c → c <ℤ pos 3 → ⊥
    too_good c le lt = absurd (omega (arith, ints, le, lt))

pub worked_bounds : LawWorkedBounds
worked_bounds =
    record {
      floor = (((4, refl), (refl, refl), omega arith), inr floor_2);
      printed = (((4, refl), (refl, refl), omega arith), inl (0, refl));
      missing = λ h. h ((4, refl), (refl, refl), omega arith);
      none_yet = λ needs. two_in_one needs.2;
      too_early = λ h. two_in_one h.0.2;
      not_asked = λ h. false_true h.0.1.0;
      no_pruning = λ h. false_true h.0.1.1;
      no_dual_bound = λ h. false_true h.0.1.1;
      holds = holds;
      too_good = λ h. h (inr (honest keeps.Layer)) (1 ∷ 3 ∷ []) (pos 3) list_3 (omega (arith, ints));
    }
