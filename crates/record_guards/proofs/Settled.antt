-- Status numbers, and models that are small.
use Rattle.std.proofs.Common.{◌≡◌, ℕ, ◌+◌, ◌*◌, ◌≤◌, ◌⊎◌, inl, inr, [], ◌∷◌, length, Some, None, refl, sym, subst, arith}
use Rattle.std.specs.Prelude.{pos, true}
use Rattle.std.proofs.Math.Nat.{mul-le-mul_left}
use Rattle.dp_claims.specs.Enough.{Has, Different}
use Rattle.dp_model.specs.declared.answers.FaultKind.TheVariants.{ZeroDivisor}
use Rattle.dp_model.specs.declared.answers.Spot.TheVariants as spots
use Rattle.dp_steps.specs.Lists.{Prefix}
use Rattle.ledger_guards.specs.Shuttle.{idle, two_states}
use Rattle.ledger_guards.proofs.Shuttle.{inner_at, there, worked_small}
use Rattle.pass_ledger.specs.TwoWays.{at}
use Rattle.pass_ledger.proofs.Finite.{no_longer}
use Rattle.pass_ledger.proofs.Lists.{has_none}
use Rattle.pass_ledger.proofs.Worked.{has_one, has_two, layer_alone}
use Rattle.pass_ledger.proofs.WorkedEnough.{zero_one}
use Rattle.pass_ledger.proofs.WorkedFault.{worked_fault}
use Rattle.solve_top.specs.Answers.{IsSettled, IsSmall}
use Rattle.record_guards.specs.Settled.{keeping_all, LawSettled, LawWorkedModels}

-- ---- status numbers

is_one : (code : ℕ) → IsSettled code → (code ≡ 0) ⊎ ((code ≡ 10) ⊎ ((4 ≤ code) × (code ≤ 6)))
is_one code (inl e) = inl e
is_one code (inr (inl e)) = inr (inl e)
is_one code (inr (inr (inl e))) = inr (inr (omega (arith, e), omega (arith, e)))
is_one code (inr (inr (inr (inl e)))) = inr (inr (omega (arith, e), omega (arith, e)))
is_one code (inr (inr (inr (inr e)))) = inr (inr (omega (arith, e), omega (arith, e)))

no_2 : IsSettled 2 → ⊥
no_2 h = elim (is_one 2 h) [ inl e ↦ absurd (omega (arith, e)) | inr (inl e) ↦ absurd (omega (arith, e)) | inr (inr r) ↦ absurd (omega (arith, r.0)) ]

no_3 : IsSettled 3 → ⊥
no_3 h = elim (is_one 3 h) [ inl e ↦ absurd (omega (arith, e)) | inr (inl e) ↦ absurd (omega (arith, e)) | inr (inr r) ↦ absurd (omega (arith, r.0)) ]

no_7 : IsSettled 7 → ⊥
no_7 h = elim (is_one 7 h) [ inl e ↦ absurd (omega (arith, e)) | inr (inl e) ↦ absurd (omega (arith, e)) | inr (inr r) ↦ absurd (omega (arith, r.1)) ]

no_11 : IsSettled 11 → ⊥
no_11 h = elim (is_one 11 h) [ inl e ↦ absurd (omega (arith, e)) | inr (inl e) ↦ absurd (omega (arith, e)) | inr (inr r) ↦ absurd (omega (arith, r.1)) ]

no_12 : IsSettled 12 → ⊥
no_12 h = elim (is_one 12 h) [ inl e ↦ absurd (omega (arith, e)) | inr (inl e) ↦ absurd (omega (arith, e)) | inr (inr r) ↦ absurd (omega (arith, r.1)) ]

pub settled : LawSettled
settled =
    record {
      optimal = inl refl;
      infeasible = inr (inl refl);
      memory = inr (inr (inl refl));
      read = inr (inr (inr (inl refl)));
      write = inr (inr (inr (inr refl)));
      usage = no_2;
      refused = no_3;
      too_long = no_7;
      stopped = no_11;
      faulted = no_12;
    }

-- ---- small models

idle_small : IsSmall idle (keeping_all 12)
idle_small =
    record {
      no_fault = worked_small.no_fault true;
      keep = refl;
      states = two_states;
      are_states = worked_small.states;
      no_round = worked_small.no_round;
      within = omega arith;
    }

two_different : Different two_states
two_different = (λ h. zero_one (sym (has_one (at 1) (at 0) h)), (λ h. has_none (at 1) h, tt))

at_start : Prefix idle [] (at 0)
at_start = ((None, (refl, refl)), inner_at true 0 refl 0 refl)

at_end : Prefix idle (0 ∷ []) (at 1)
at_end = ((Some (pos 0), there), inner_at true 0 refl 1 refl)

-- a list of all states has both, and so twelve visits are wanted at least
too_few : (n : ℕ) → 2 ≤ n → n * n * (n + 1) ≤ 11 → ⊥
too_few n two le =
    let a : n * 2 ≤ n * n = mul-le-mul_left n two in
    let b : n * n * 3 ≤ n * n * (n + 1) = mul-le-mul_left (n * n) (omega (arith, two)) in
    absurd (omega (arith, two, le, a, b))

one_fewer : IsSmall idle (keeping_all 11) → ⊥
one_fewer h =
    too_few (length h.states)
    (no_longer two_states h.states two_different (λ s has. elim (has_two (at 0) (at 1) s has) [
      | inl e ↦ subst (Has h.states) e (h.are_states [] (at 0) at_start)
      | inr e ↦ subst (Has h.states) e (h.are_states (0 ∷ []) (at 1) at_end)
    ]))
    h.within

pub worked_models : LawWorkedModels
worked_models =
    record {
      small = idle_small;
      one_fewer = one_fewer;
      other_keep = λ h. layer_alone h.keep;
      round_betters = λ budget h. worked_small.a_round_betters h.no_round;
      meets_a_fault = λ budget h. h.no_fault (1 ∷ []) (spots.Bound 0) ZeroDivisor worked_fault.met;
    }
