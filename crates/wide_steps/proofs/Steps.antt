-- What inner and base states and steps say in wide values.
use Rattle.std.proofs.Common.{◌≡◌, ℕ, ◌<◌, Bool, true, false, ◌&&◌, if◌then◌else◌, ◌⊎◌, List, [], ◌∷◌, slice_get, Option, Some, None, Result, Ok, Err, IsTrue, ℤ, pos, negsuc, refl, sym, ap, subst, ◌∙◌}
use Rattle.std.specs.Prelude.{option_map, nat_lt, ◌^◌, ◌+◌}
use Rattle.dp_base.specs.Results.{◌>>=◌, in_turn}
use Rattle.dp_model.specs.Evaluation.{kind_of, num_value, set_value, cond_value}
use Rattle.dp_model.specs.StepTexts.{ground_of}
use Rattle.dp_model.specs.Typing.{is_state}
use Rattle.dp_model.specs.declared.answers.FaultKind.{FaultKind}
use Rattle.dp_model.specs.declared.answers.FaultKind.TheVariants.{Range}
use Rattle.dp_model.specs.declared.trees.Cond.{Cond}
use Rattle.dp_model.specs.declared.trees.Num.{Num}
use Rattle.dp_model.specs.declared.parts.BaseCase.{BaseCase}
use Rattle.dp_model.specs.declared.parts.Effect.{Effect}
use Rattle.dp_model.specs.declared.parts.Effect.TheVariants as effects
use Rattle.dp_model.specs.declared.parts.VarKind.{VarKind}
use Rattle.dp_model.specs.declared.parts.VarKind.TheVariants as kinds
use Rattle.dp_model.specs.declared.parts.Transition.{Transition}
use Rattle.dp_model.specs.declared.parts.PlainValue.{PlainValue}
use Rattle.dp_model.specs.declared.parts.PlainValue.TheVariants as values
use Rattle.dp_model.specs.declared.parts.PlainState.{PlainState}
use Rattle.dp_model.specs.declared.whole.Model.{Model}
use Rattle.dp_steps.specs.States.{Base, Inner, IsForced, Step, all_true, are_members, case_cost, effect_value, is_enabled, next_state, stored, weight_of, with_changes}
use Rattle.spot_eval.specs.Moves.{effects_at, next_at}
use Rattle.spot_eval.proofs.Next.{next_fits}
use Rattle.wide_values.specs.Wide.{wide_num, wide_cond}
use Rattle.wide_values.specs.Laws.{LawWide}
use Rattle.wide_steps.specs.Steps.{all_hold, may_go, wide_effect, wide_next, wide_weight}
use Rattle.wide_steps.specs.Laws.{CostsBy, LawWideSteps}
use Rattle.wide_steps.proofs.Told.{bound, ok_same, each_told, turns_told}
use Rattle.wide_steps.proofs.Cases.{best_is, not_satisfied, open_case, satisfied}

-- a transition of one number
one_move : (a b : Transition × List ℕ) (o : Option (Transition × List ℕ)) → o ≡ Some a → o ≡ Some b → a ≡ b
one_move a b None p q = absurd (cc)
one_move a b (Some x) p q = cc

-- a number that is stored stays the same
stored_same : (kind : VarKind) (n held : ℤ) → stored kind n ≡ Ok held → held ≡ n
stored_same kinds.Integer n held h = sym (ok_same n held h)
stored_same (kinds.Set object) n held h = sym (ok_same n held h)
stored_same (kinds.Element object) (pos n) held h = where_below (nat_lt n (2 ^ 32)) h
  where
    where_below : (below : Bool) → (if below then Ok (pos n) else Err Range) ≡ Ok held → held ≡ pos n
    where_below true h = sym (ok_same (pos n) held h)
    where_below false h = absurd (cc)
stored_same (kinds.Element object) (negsuc n) held h = absurd (cc)

module _ (wide : LawWide) (m : Model) where
  -- conditions up to the first that does not hold
  all_told : (s : PlainState) (given : List ℕ) (cs : List Cond) (b : Bool) → all_true m s given cs ≡ Ok b → b ≡ all_hold m s given cs
  all_told s given cs b h = each_told (λ (c : Cond). cond_value m s c given) (λ (c : Cond). wide_cond m s c given) (λ c held. wide.cond m s c given held) cs b h

  inner_allowed : (s : PlainState) → Inner m s → all_hold m s [] m.constraints ≡ true
  inner_allowed s inner = sym (all_told s [] m.constraints true inner.allowed)

  inner_open : (s : PlainState) (i : ℕ) (b : BaseCase) → Inner m s → slice_get m.base_cases i ≡ Some b → all_hold m s [] b.conditions ≡ false
  inner_open s i b inner at = sym (all_told s [] b.conditions false (not_satisfied m s b (open_case m s m.base_cases i b inner.open_cases at)))

  base_costs : (s : PlainState) (cost : ℤ) → Base m s cost → CostsBy m s cost
  base_costs s cost base =
      let best = base.best in
      let found = best_is m s (CostsBy m s) m.base_cases best.0 best.1 by best.2 in
      subst (CostsBy m s) (sym best.3) found
    where
      by : (i : ℕ) (b : BaseCase) (x : ℤ) → slice_get m.base_cases i ≡ Some b → case_cost m s b ≡ Ok (Some x) → CostsBy m s x
      by i b x at h =
          let holds = satisfied m s b x h in
          record { place = i; base_case = b; there = at; holds = sym (all_told s [] b.conditions true holds.0); cost_is = wide.num m s b.cost [] x holds.1 }

  -- ---- steps

  enabled_told : (s : PlainState) (t : Transition × List ℕ) (b : Bool) → is_enabled m s t ≡ Ok b → b ≡ may_go m s t
  enabled_told s t b h = where_members (are_members s t.0.params t.1) h
    where
      where_members : (members : Bool) → (if members then all_true m s t.1 t.0.preconditions else Ok false) ≡ Ok b → b ≡ (members && all_hold m s t.1 t.0.preconditions)
      where_members true h = all_told s t.1 t.0.preconditions b h
      where_members false h = sym (ok_same false b h)

  effect_told : (s : PlainState) (given : List ℕ) (e : Effect) (change : ℕ × PlainValue) → effect_value m s given e ≡ Ok change → change ≡ wide_effect m s given e
  effect_told s given (effects.Number v e) change h =
      let n = bound (num_value m s e given) (λ n. stored (kind_of m v) n >>= λ held. Ok (v, values.Number held)) change h in
      let held = bound (stored (kind_of m v) n.0) (λ held. Ok (v, values.Number held)) change n.2 in
      let same : held.0 ≡ wide_num m s e given = stored_same (kind_of m v) n.0 held.0 held.1 ∙ wide.num m s e given n.0 n.1 in
      sym (ok_same (v, values.Number held.0) change held.2) ∙ ap (λ (z : ℤ). (v, values.Number z)) same
  effect_told s given (effects.Members v e) change h =
      let xs = bound ((set_value m s e).1 given) (λ members. Ok (v, values.Members members)) change h in
      sym (ok_same (v, values.Members xs.0) change xs.2) ∙ ap (λ (zs : List ℕ). (v, values.Members zs)) (wide.set m s e given xs.0 xs.1)

  next_told : (s : PlainState) (t : Transition × List ℕ) (next : PlainState) → next_state m s t ≡ Ok next → next.values ≡ wide_next m s t
  next_told s t next h =
      let changes = bound (in_turn (effect_value m s t.1) t.0.effects) (λ changes. Ok (record { values = with_changes s.values changes })) next h in
      let state : PlainState = record { values = with_changes s.values changes.0 } in
      let same : state ≡ next = ok_same state next changes.2 in
      let told = turns_told (effect_value m s t.1) (wide_effect m s t.1) (effect_told s t.1) t.0.effects changes.0 changes.1 in
      sym (ap (λ (x : PlainState). x.values) same) ∙ ap (λ (cs : List (ℕ × PlainValue)). with_changes s.values cs) told

  weight_by : (s : PlainState) (t : Transition × List ℕ) (weight : Option ℤ) (w : Option Num) → t.0.weight ≡ w → weight_of m s t ≡ Ok weight → weight ≡ option_map (λ (e : Num). wide_num m s e t.1) w
  weight_by s t weight None q h =
      let h' : ◌≡◌ {A = Result (Option ℤ) FaultKind} (Ok None) (Ok weight) = rw q at h in
      sym (ok_same None weight h')
  weight_by s t weight (Some e) q h =
      let h' : (num_value m s e t.1 >>= λ w. Ok (Some w)) ≡ Ok weight = rw q at h in
      let n = bound (num_value m s e t.1) (λ w. Ok (Some w)) weight h' in
      sym (ok_same (Some n.0) weight n.2) ∙ ap Some (wide.num m s e t.1 n.0 n.1)

  weight_told : (s : PlainState) (t : Transition × List ℕ) (weight : Option ℤ) → weight_of m s t ≡ Ok weight → weight ≡ wide_weight m s t
  weight_told s t weight h = weight_by s t weight t.0.weight refl h

  -- the effects at their spots
  effects_there : (s : PlainState) (g : ℕ) (given : List ℕ) (i : ℕ) (es : List Effect) (changes : List (ℕ × PlainValue)) → in_turn (effect_value m s given) es ≡ Ok changes → effects_at m s g given i es ≡ Ok changes
  effects_there s g given i [] changes h = ap Ok (ok_same [] changes h)
  effects_there s g given i (e ∷ es) changes h =
      let first = bound (effect_value m s given e) (λ y. in_turn (effect_value m s given) es >>= λ more. Ok (y ∷ more)) changes h in
      let rest = bound (in_turn (effect_value m s given) es) (λ more. Ok (first.0 ∷ more)) changes first.2 in
      let more = effects_there s g given (i + 1) es rest.0 rest.1 in
      rw (first.1, more) (ap Ok (ok_same (first.0 ∷ rest.0) changes rest.2))

  next_there : (s : PlainState) (g : ℕ) (t : Transition × List ℕ) (next : PlainState) → next_state m s t ≡ Ok next → next_at m s g t ≡ Ok next
  next_there s g t next h =
      let changes = bound (in_turn (effect_value m s t.1) t.0.effects) (λ changes. Ok (record { values = with_changes s.values changes })) next h in
      rw (effects_there s g t.1 0 t.0.effects changes.0 changes.1) (ap Ok (ok_same (record { values = with_changes s.values changes.0 }) next changes.2))

  -- ---- a step

  move_is : (s : PlainState) (g : ℕ) (weight : Option ℤ) (next : PlainState) (t : Transition × List ℕ) → Step m s g weight next → ground_of m g ≡ Some t → (is_enabled m s t ≡ Ok true) × (weight_of m s t ≡ Ok weight) × (next_state m s t ≡ Ok next)
  move_is s g weight next t step at =
      let same = one_move step.move.0 t (ground_of m g) step.move.1 at in
      subst (λ (u : Transition × List ℕ). (is_enabled m s u ≡ Ok true) × (weight_of m s u ≡ Ok weight) × (next_state m s u ≡ Ok next)) same (step.move.2, step.move.3, step.move.4)

  considered : (s : PlainState) (g : ℕ) (weight : Option ℤ) (next : PlainState) (f : ℕ) (t : Transition × List ℕ) → Step m s g weight next → ground_of m f ≡ Some t → t.0.forced ≡ true → (f < g) ⊎ (IsForced m g → ⊥) → may_go m s t ≡ false
  considered s g weight next f t step at forced before = sym (enabled_told s t false (step.considered f t (t, at, forced) at before))

  state_kept : (s : PlainState) (g : ℕ) (weight : Option ℤ) (next : PlainState) → Step m s g weight next → IsTrue (is_state m.objects m.variables s) → IsTrue (is_state m.objects m.variables next)
  state_kept s g weight next step held = next_fits m s g step.move.0 next step.move.1 (next_there s g step.move.0 next step.move.4) held

pub steps_law : LawWide → LawWideSteps
steps_law wide = record {
  inner_allowed = λ m s inner. inner_allowed wide m s inner;
  inner_open = λ m s i b inner at. inner_open wide m s i b inner at;
  base_allowed = λ m s cost base. sym (all_told wide m s [] m.constraints true base.allowed);
  base_costs = λ m s cost base. base_costs wide m s cost base;
  goes = λ m s g weight next t step at. sym (enabled_told wide m s t true (move_is wide m s g weight next t step at).0);
  weighs = λ m s g weight next t step at. weight_told wide m s t weight (move_is wide m s g weight next t step at).1;
  leads = λ m s g weight next t step at. next_told wide m s t next (move_is wide m s g weight next t step at).2;
  considered = λ m s g weight next f t step at forced before. considered wide m s g weight next f t step at forced before;
  state = λ m s g weight next step held. state_kept wide m s g weight next step held;
}
