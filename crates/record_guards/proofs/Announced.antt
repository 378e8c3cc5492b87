-- Costs that passes announce: which are right, and which are not.
use Rattle.std.proofs.Common.{◌≡◌, ℕ, ◌+◌, ◌<◌, zero, suc, inl, inr, List, [], ◌∷◌, slice_get, Some, None, refl, sym, subst, arith}
use Rattle.std.specs.Prelude.{ℤ, pos, ◌≤ℤ◌, ◌<ℤ◌}
use Rattle.std.proofs.lemmas.Int.{ints}
use Rattle.dp_claims.specs.Enough.{Has}
use Rattle.dp_steps.specs.Lists.{Solution}
use Rattle.pass_ledger.specs.Passes.{word_of}
use Rattle.pass_ledger.specs.Worked.{plain, alone, word_3}
use Rattle.pass_ledger.proofs.Lists.{has_none}
use Rattle.pass_ledger.proofs.Worked.{best_way, has_one, has_two, none_is, some_is}
use Rattle.solve_passes.specs.Records.{Pass, OutOfMemory, TellsBest}
use Rattle.record_guards.specs.Records.{of_11, of_3, first, second}
use Rattle.record_guards.specs.Announced.{telling, optimal, LawWorkedAnnounced}
use Rattle.record_guards.proofs.Records.{list_11, list_3}

-- ---- costs of lists

abbrev HasList : ℤ → Type 0
HasList c = (steps : List ℕ) × Solution plain steps c

of_both : (c : ℤ) → Has (pos 11 ∷ pos 3 ∷ []) c → HasList c
of_both c h = elim (has_two (pos 11) (pos 3) c h) [ inl e ↦ subst HasList e (0 ∷ 2 ∷ [], list_11) | inr e ↦ subst HasList e (1 ∷ 3 ∷ [], list_3) ]

of_one : (c : ℤ) → Has (pos 11 ∷ []) c → HasList c
of_one c h = subst HasList (has_one (pos 11) c h) (0 ∷ 2 ∷ [], list_11)

no_list : HasList (pos 2) → ⊥
no_list h = too_good (best_way h.0 (pos 2) h.1)
  where
    too_good : pos word_3 ≤ℤ word_of (alone 2) (pos 2) → ⊥
    too_good le = absurd (omega (arith, ints, le))

better : pos 3 <ℤ pos 11
better = omega (arith, ints)

not_better : pos 11 <ℤ pos 3 → ⊥
not_better h = absurd (omega (arith, ints, h))

not_less : pos 11 <ℤ pos 11 → ⊥
not_less h = absurd (omega (arith, ints, h))

-- ---- what passes tell

abbrev AllTell : List Pass → Type 0
AllTell ps = (k : ℕ) (p : Pass) → slice_get ps k ≡ Some p → TellsBest p

one_tells : (p : Pass) → TellsBest p → AllTell (p ∷ [])
one_tells p h zero q at = subst TellsBest (some_is p q at) h
one_tells p h (suc k) q at = absurd (none_is q at)

two_tell : (p q : Pass) → TellsBest p → TellsBest q → AllTell (p ∷ q ∷ [])
two_tell p q h g zero r at = subst TellsBest (some_is p r at) h
two_tell p q h g (suc k) r at = one_tells q g k r at

not_ended : optimal ≡ OutOfMemory → ⊥
not_ended e = cc

differ : Some (pos 11) ≡ Some (pos 3) → ⊥
differ e = apart (some_is (pos 11) (pos 3) e)
  where
    apart : pos 11 ≡ pos 3 → ⊥
    apart e = absurd (omega (arith, ints, e))

first_of_two : 0 + 1 < 2
first_of_two = omega arith

-- before want of memory the second of two passes is the last
second_is_last : (k : ℕ) → suc k + 1 < 2 → ⊥
second_is_last k lt = absurd (omega (arith, lt))

first_alone : (k : ℕ) (p : Pass) → slice_get (telling (pos 11 ∷ []) (Some of_11) ∷ telling [] (Some of_3) ∷ []) k ≡ Some p → (OutOfMemory ≡ OutOfMemory → k + 1 < 2) → TellsBest p
first_alone zero p at early = subst TellsBest (some_is (telling (pos 11 ∷ []) (Some of_11)) p at) refl
first_alone (suc k) p at early = absurd (second_is_last k (early refl))

pub worked_announced : LawWorkedAnnounced
worked_announced =
    record {
      both = record { legal = of_both; improving = (tt, (better, tt)); best = λ k p at _. one_tells (telling (pos 11 ∷ pos 3 ∷ []) (Some of_3)) refl k p at };
      each = record { legal = of_both; improving = (tt, (better, tt)); best = λ k p at _. two_tell (telling (pos 11 ∷ []) (Some of_11)) (telling (pos 3 ∷ []) (Some of_3)) refl refl k p at };
      silent = record { legal = λ c h. absurd (has_none c h); improving = tt; best = λ k p at _. two_tell first second tt tt k p at };
      cut_short = record { legal = of_one; improving = (tt, tt); best = first_alone };
      not_the_last = λ h. none_is (pos 11) (h.best 0 (telling [] (Some of_11)) refl (λ e. first_of_two));
      told_less = λ h. differ (h.best 0 (telling (pos 11 ∷ []) (Some of_3)) refl (λ e. absurd (not_ended e)));
      told_nothing = λ h. none_is (pos 3) (h.best 0 (telling [] (Some of_3)) refl (λ e. absurd (not_ended e)));
      found_nothing = λ h. none_is (pos 3) (sym (h.best 0 (telling (pos 3 ∷ []) None) refl (λ e. absurd (not_ended e))));
      worse_again = λ h. not_better h.improving.1.0;
      same_again = λ h. not_less h.improving.1.0;
      no_list = λ h. no_list (h.legal (pos 2) (0, refl));
    }
