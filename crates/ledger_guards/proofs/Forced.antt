-- A model with a forced way.
use Rattle.std.proofs.Common.{◌≡◌, ℕ, ◌<◌, zero, suc, Bool, true, false, inl, inr, List, [], ◌∷◌, Some, Result, Ok, refl, sym, ap, subst, ◌∙◌, arith}
use Rattle.std.specs.Prelude.{pos}
use Rattle.std.specs.Ordering.{int_eq}
use Rattle.std.proofs.Math.Nat.{zero-lt-suc}
use Rattle.dp_model.specs.Evaluation.{num_value}
use Rattle.dp_model.specs.StepTexts.{ground_of}
use Rattle.dp_model.specs.declared.answers.FaultKind.{FaultKind}
use Rattle.dp_model.specs.declared.parts.PlainState.{PlainState}
use Rattle.dp_model.specs.declared.trees.Num as nums
use Rattle.dp_steps.specs.States.{Considered, Enabled, Inner, IsForced, Step, is_enabled, next_state, weight_of}
use Rattle.dp_claims.specs.Enough.{Has}
use Rattle.pass_ledger.specs.Records.{IsSuccessor}
use Rattle.pass_ledger.specs.TwoWays.{at, is_at, way}
use Rattle.pass_ledger.specs.Worked.{n0, n1, n2}
use Rattle.pass_ledger.specs.declared.mail.Letter.{Letter}
use Rattle.pass_ledger.specs.declared.mail.Letter.TheVariants.{State}
use Rattle.pass_ledger.proofs.Lists.{has_none}
use Rattle.pass_ledger.proofs.Moves.{forbidden_not_allowed, inner_not_base, step_same}
use Rattle.pass_ledger.proofs.TwoWays.{bind_value, one_true, unforced, value_at, value_fixed}
use Rattle.pass_ledger.proofs.Worked.{at_apart, has_one, in_range, none_is, small, some_is, state_parts}
use Rattle.state_layout.specs.declared.node.Node.{Node}
use Rattle.ledger_guards.specs.Forced.{forced_way, forcing, forced_pass, AccountedBy, LawWorkedForced}

p_enabled : is_enabled forcing (at 0) (forced_way, []) ≡ Ok true
p_enabled = one_true forcing (at 0) [] (is_at 0) true (value_at forcing (at 0) [] 0)

inner_at : (a : ℕ) → int_eq (pos a) (pos 3) ≡ false → Inner forcing (at a)
inner_at a e = record { allowed = refl; open_cases = rw (one_true forcing (at a) [] (is_at 3) false (value_at forcing (at a) [] 3 ∙ ap Ok e)) refl }

-- the first way alone is forced
p_forced : IsForced forcing 0
p_forced = ((forced_way, []), refl, refl)

only_forced : (g : ℕ) → IsForced forcing g → g ≡ 0
only_forced zero h = refl
only_forced (suc zero) h = absurd (unforced _ h.0 h.1 refl h.2)
only_forced (suc (suc zero)) h = absurd (unforced _ h.0 h.1 refl h.2)
only_forced (suc (suc (suc zero))) h = absurd (unforced _ h.0 h.1 refl h.2)
only_forced (suc (suc (suc (suc g)))) h = absurd (none_is h.0 h.1)

p_considered : (s : PlainState) → Considered forcing s 0
p_considered s f t forced is (inl before) = absurd (never f before)
  where
    never : (f : ℕ) → f < 0 → ⊥
    never f lt = absurd (omega (arith, lt))
p_considered s f t forced is (inr free) = absurd (free p_forced)

q_not : Considered forcing (at 0) 1 → ⊥
q_not h = clash (sym p_enabled ∙ h 0 (forced_way, []) p_forced refl (inl (zero-lt-suc 0)))
  where
    clash : ◌≡◌ {A = Result Bool FaultKind} (Ok true) (Ok false) → ⊥
    clash e = cc

weight_at : weight_of forcing (at 0) (forced_way, []) ≡ Ok (Some (pos 1))
weight_at = bind_value (num_value forcing (at 0) (nums.Fixed (pos 1)) []) (λ w. Ok (Some w)) (pos 1) (Ok (Some (pos 1))) (value_fixed forcing (at 0) [] (pos 1)) refl

next_at : next_state forcing (at 0) (forced_way, []) ≡ Ok (at 1)
next_at = rw (value_fixed forcing (at 0) [] (pos 1)) refl

p_step : Step forcing (at 0) 0 (Some (pos 1)) (at 1)
p_step = record { inner = inner_at 0 refl; considered = p_considered (at 0); move = ((forced_way, []), refl, p_enabled, weight_at, next_at) }

n1_from : IsSuccessor forced_pass 0 0 n0 0 n1
n1_from = record { weight = Some (pos 1); step = p_step; inner = inner_at 1 refl; cost = refl; in_range = in_range 1 (small 1 (omega arith)); floor = refl; parent = refl; transition = refl }

-- the ways from other states are not enabled in the target
disabled : (g : ℕ) (name : List ℕ) (from to weight : ℕ) → ground_of forcing g ≡ Some (way name from to weight, []) → int_eq (pos 0) (pos from) ≡ false → Enabled forcing (at 0) g → ⊥
disabled g name from to weight is elsewhere enabled =
    let same = some_is (way name from to weight, []) enabled.0 (sym is ∙ enabled.1) in
    clash (sym (one_true forcing (at 0) [] (is_at from) false (value_at forcing (at 0) [] from ∙ ap Ok elsewhere)) ∙ ap (is_enabled forcing (at 0)) same ∙ enabled.2)
  where
    clash : ◌≡◌ {A = Result Bool FaultKind} (Ok false) (Ok true) → ⊥
    clash e = cc

accounted : AccountedBy (State 0 1 n1 ∷ [])
accounted zero considered enabled = inr (inr (n1, n1_from, inr (inl (0, refl))))
accounted (suc zero) considered enabled = absurd (q_not considered)
accounted (suc (suc zero)) considered enabled = absurd (disabled 2 _ 1 3 10 refl refl enabled)
accounted (suc (suc (suc zero))) considered enabled = absurd (disabled 3 _ 2 3 1 refl refl enabled)
accounted (suc (suc (suc (suc g)))) considered enabled = absurd (none_is enabled.0 enabled.1)

-- where the forced way leads has to be posted
posts_1 : (letters : List Letter) → AccountedBy letters → (n : Node) × (at 1 ≡ n.state) × Has letters (State 0 1 n)
posts_1 letters h =
    elim (h 0 (p_considered (at 0)) ((forced_way, []), refl, p_enabled)) [
      | inl out ↦ absurd (
          let same = step_same forcing (at 0) 0 (Some (pos 1)) out.0 (at 1) out.1 p_step out.2 in
          forbidden_not_allowed forcing out.1 out.3 (subst (Inner forcing) same.1 (inner_at 1 refl)).allowed)
      | inr (inl base) ↦ absurd (
          let total = base.1 in
          let same = step_same forcing (at 0) 0 (Some (pos 1)) total.weight (at 1) total.next p_step total.step in
          inner_not_base forcing total.next total.base (subst (Inner forcing) same.1 (inner_at 1 refl)) total.is_base)
      | inr (inr (n, successor, inl pruned)) ↦ absurd (has_none (record { node = n; best = pruned.0 }) pruned.1)
      | inr (inr (n, successor, inr (inl sent))) ↦ (n, (step_same forcing (at 0) 0 (Some (pos 1)) successor.weight (at 1) n.state p_step successor.step).1, sent)
      | inr (inr (n, successor, inr (inr ready))) ↦ absurd (has_none (record { to = 0; node = n }) ready)
    ]

other_posted : AccountedBy (State 0 1 n2 ∷ []) → ⊥
other_posted h = let s = posts_1 (State 0 1 n2 ∷ []) h in at_apart (s.1 ∙ sym (ap (λ (n : Node). n.state) (state_parts 0 1 0 1 n2 s.0 (has_one (State 0 1 n2) (State 0 1 s.0) s.2)).2))

pub worked_forced : LawWorkedForced
worked_forced =
    record {
      forced = p_considered (at 0);
      other = q_not;
      accounted = accounted;
      left_out = λ h. (let s = posts_1 [] h in has_none (State 0 1 s.0) s.2);
      other_posted = other_posted;
    }
