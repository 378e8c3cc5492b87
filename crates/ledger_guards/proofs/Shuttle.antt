-- What holds of the shuttles.
use Rattle.std.proofs.Common.{◌≡◌, ℕ, zero, suc, Bool, true, false, ◌⊎◌, inl, inr, List, [], ◌∷◌, slice_get, Option, Some, None, Result, Ok, Err, refl, sym, ap, subst, ◌∙◌, arith}
use Rattle.std.specs.Prelude.{ℤ, pos, ◌+ℤ◌, ◌<ℤ◌, take}
use Rattle.std.specs.Ordering.{int_eq}
use Rattle.std.proofs.lemmas.Int.{ints}
use Rattle.dp_model.specs.Costs.{join, join_onto, order_word, ranged}
use Rattle.dp_model.specs.Evaluation.{num_value, cond_value}
use Rattle.dp_model.specs.StepTexts.{ground_of}
use Rattle.dp_model.specs.Typing.{is_in_range}
use Rattle.dp_model.specs.declared.answers.FaultKind.{FaultKind}
use Rattle.dp_model.specs.declared.answers.Spot.{Spot}
use Rattle.dp_model.specs.declared.answers.Spot.TheVariants as spots
use Rattle.dp_model.specs.declared.parts.BaseCase.{BaseCase}
use Rattle.dp_model.specs.declared.parts.Effect.{Effect}
use Rattle.dp_model.specs.declared.parts.Effect.TheVariants as effects
use Rattle.dp_model.specs.declared.parts.JoinOp.TheVariants.{Plus}
use Rattle.dp_model.specs.declared.parts.PlainState.{PlainState}
use Rattle.dp_model.specs.declared.parts.PlainValue.TheVariants.{Number}
use Rattle.dp_model.specs.declared.parts.Transition.{Transition}
use Rattle.dp_model.specs.declared.trees.Cond.{Cond}
use Rattle.dp_model.specs.declared.trees.Num as nums
use Rattle.dp_model.specs.declared.whole.Model.{Model}
use Rattle.dp_steps.specs.Faults.{Meets, MeetsIn}
use Rattle.dp_steps.specs.Lists.{Leads, Path}
use Rattle.dp_steps.specs.States.{Base, Considered, Enabled, Inner, IsForced, Step, effect_value, is_enabled, weight_of, next_state}
use Rattle.pass_ledger.specs.Finite.{AreStates, NoRoundBetters}
use Rattle.pass_ledger.specs.TwoWays.{at, is_at, way}
use Rattle.pass_ledger.proofs.Finite.{finite}
use Rattle.pass_ledger.proofs.Moves.{inner_not_base, step_same, step_enabled}
use Rattle.pass_ledger.proofs.TwoWays.{value_fixed, value_at, one_true, bind_value, unforced}
use Rattle.pass_ledger.proofs.Worked.{has_one, none_is, some_is, in_range, small}
use Rattle.pass_ledger.proofs.WorkedEnough.{zero_one}
use Rattle.ledger_guards.specs.Shuttle.{shuttle, idle, gaining, two_states, LawWorkedSmall}

-- ---- steps of either

module _ (minimize : Bool) (weight : ℕ) (fits : is_in_range (pos weight) ≡ true) where
  abbrev model : Model
  model = shuttle minimize weight fits

  enabled_at : (name : List ℕ) (from to a : ℕ) → is_enabled model (at a) (way name from to weight, []) ≡ Ok (int_eq (pos a) (pos from))
  enabled_at name from to a = one_true model (at a) [] (is_at from) (int_eq (pos a) (pos from)) (value_at model (at a) [] from)

  pub weight_at : (name : List ℕ) (from to : ℕ) (s : PlainState) → weight_of model s (way name from to weight, []) ≡ Ok (Some (pos weight))
  weight_at name from to s = bind_value (num_value model s (nums.Fixed (pos weight)) []) (λ w. Ok (Some w)) (pos weight) (Ok (Some (pos weight))) (value_fixed model s [] (pos weight)) refl

  next_at : (name : List ℕ) (from to a : ℕ) → next_state model (at a) (way name from to weight, []) ≡ Ok (at to)
  next_at name from to a = rw (value_fixed model (at a) [] (pos to)) refl

  pub inner_at : (a : ℕ) → int_eq (pos a) (pos 3) ≡ false → Inner model (at a)
  inner_at a e = record { allowed = refl; open_cases = rw (one_true model (at a) [] (is_at 3) false (value_at model (at a) [] 3 ∙ ap Ok e)) refl }

  none_forced : (g : ℕ) → IsForced model g → ⊥
  none_forced zero h = unforced _ h.0 h.1 refl h.2
  none_forced (suc zero) h = unforced _ h.0 h.1 refl h.2
  none_forced (suc (suc g)) h = absurd (none_is h.0 h.1)

  considered : (s : PlainState) (g : ℕ) → Considered model s g
  considered s g f t forced is before = absurd (none_forced f forced)

  step_at : (g : ℕ) (name : List ℕ) (from to : ℕ) → ground_of model g ≡ Some (way name from to weight, []) → int_eq (pos from) (pos 3) ≡ false → int_eq (pos from) (pos from) ≡ true → Step model (at from) g (Some (pos weight)) (at to)
  step_at g name from to is open_here same =
      record {
        inner = inner_at from open_here;
        considered = considered (at from) g;
        move = ((way name from to weight, []), is, enabled_at name from to from ∙ ap Ok same, weight_at name from to (at from), next_at name from to from);
      }

  pub there_step : Step model (at 0) 0 (Some (pos weight)) (at 1)
  there_step = step_at 0 _ 0 1 refl refl refl

  pub back_step : Step model (at 1) 1 (Some (pos weight)) (at 0)
  back_step = step_at 1 _ 1 0 refl refl refl

  disabled : (g : ℕ) (name : List ℕ) (from to a : ℕ) → ground_of model g ≡ Some (way name from to weight, []) → int_eq (pos a) (pos from) ≡ false → Enabled model (at a) g → ⊥
  disabled g name from to a is elsewhere enabled =
      let same = some_is (way name from to weight, []) enabled.0 (sym is ∙ enabled.1) in
      clash (sym (enabled_at name from to a ∙ ap Ok elsewhere) ∙ ap (is_enabled model (at a)) same ∙ enabled.2)
    where
      clash : ◌≡◌ {A = Result Bool FaultKind} (Ok false) (Ok true) → ⊥
      clash e = cc

  from_0 : (g : ℕ) → Enabled model (at 0) g → g ≡ 0
  from_0 zero h = refl
  from_0 (suc zero) h = absurd (disabled 1 _ 1 0 0 refl refl h)
  from_0 (suc (suc g)) h = absurd (none_is h.0 h.1)

  from_1 : (g : ℕ) → Enabled model (at 1) g → g ≡ 1
  from_1 zero h = absurd (disabled 0 _ 0 1 1 refl refl h)
  from_1 (suc zero) h = refl
  from_1 (suc (suc g)) h = absurd (none_is h.0 h.1)

  -- the states that are come to
  abbrev pub IsStop : PlainState → Type 0
  IsStop s = (at 0 ≡ s) ⊎ (at 1 ≡ s)

  -- a step leads from one of them to the other, at the weight
  moved : (s next : PlainState) (g : ℕ) (w : Option ℤ) → IsStop s → Step model s g w next → (Some (pos weight) ≡ w) × IsStop next
  moved s next g w (inl e) step =
      let here = subst (λ (x : PlainState). Step model x g w next) (sym e) step in
      let is = from_0 g (step_enabled model (at 0) g w next here) in
      let same = step_same model (at 0) 0 (Some (pos weight)) w (at 1) next there_step (subst (λ (k : ℕ). Step model (at 0) k w next) is here) in
      (same.0, inr same.1)
  moved s next g w (inr e) step =
      let here = subst (λ (x : PlainState). Step model x g w next) (sym e) step in
      let is = from_1 g (step_enabled model (at 1) g w next here) in
      let same = step_same model (at 1) 1 (Some (pos weight)) w (at 0) next back_step (subst (λ (k : ℕ). Step model (at 1) k w next) is here) in
      (same.0, inl same.1)

  stops : (s to : PlainState) (cost total : Option ℤ) (u : List ℕ) → IsStop s → Leads model s cost u to total → IsStop to
  stops s to cost total [] at_stop h = subst IsStop h.0 at_stop
  stops s to cost total (g ∷ u) at_stop h = stops h.0 to (join model.join cost h.1) total u (moved s h.0 g h.1 at_stop h.2).1 h.4

  pub path_stops : (u : List ℕ) (s : PlainState) (cost : Option ℤ) → Path model u s cost → IsStop s
  path_stops u s cost path = stops (at 0) s None cost u (inl refl) path

  pub are_states : AreStates model two_states
  are_states u s reach = elim (path_stops u s reach.0.0 reach.0.1) [ inl e ↦ (0, ap Some e) | inr e ↦ (1, ap Some e) ]

  -- neither of them is base
  not_base : (s : PlainState) (cost : ℤ) → IsStop s → Base model s cost → ⊥
  not_base s cost (inl e) base = inner_not_base model s cost (subst (Inner model) e (inner_at 0 refl)) base
  not_base s cost (inr e) base = inner_not_base model s cost (subst (Inner model) e (inner_at 1 refl)) base

-- ---- the idle one: no step changes the word of the cost so far

zero_joined : (cost : Option ℤ) → order_word true Plus (join Plus cost (Some (pos 0))) ≡ order_word true Plus cost
zero_joined None = refl
zero_joined (Some c) = omega (arith, ints)

word_same : (s to : PlainState) (cost total : Option ℤ) (u : List ℕ) → IsStop true 0 refl s → Leads idle s cost u to total → order_word true Plus total ≡ order_word true Plus cost
word_same s to cost total [] at_stop h = ap (order_word true Plus) (sym h.1)
word_same s to cost total (g ∷ u) at_stop h =
    let m = moved true 0 refl s h.0 g h.1 at_stop h.2 in
    word_same h.0 to (join Plus cost h.1) total u m.1 h.4 ∙ subst (λ (w : Option ℤ). order_word true Plus (join Plus cost w) ≡ order_word true Plus cost) m.0 (zero_joined cost)

path_word : (u : List ℕ) (s : PlainState) (cost : Option ℤ) → Path idle u s cost → order_word true Plus cost ≡ pos 9223372036854775808
path_word u s cost path = word_same (at 0) s None cost u (inl refl) path

not_less : (a b c : ℤ) → a ≡ c → b ≡ c → a <ℤ b → ⊥
not_less a b c e f less = absurd (omega (arith, ints, e, f, less))

pub no_round : NoRoundBetters idle
no_round u to reach i j s cost later lt le first second less = not_less (order_word true Plus later) (order_word true Plus cost) (pos 9223372036854775808) (path_word (take j u) s later second) (path_word (take i u) s cost first) less

-- ---- it meets no fault

-- what holds of both transitions
of_ground : (P : Transition × List ℕ → Type 0) → ((name : List ℕ) (from to : ℕ) → P (way name from to 0, [])) → (g : ℕ) (t : Transition × List ℕ) → ground_of idle g ≡ Some t → P t
of_ground P h zero t is = subst P (some_is _ t is) (h _ 0 1)
of_ground P h (suc zero) t is = subst P (some_is _ t is) (h _ 1 0)
of_ground P h (suc (suc g)) t is = absurd (none_is t is)

ok_err : {A : Type 0} (r : Result A FaultKind) (x : A) (kind : FaultKind) → r ≡ Ok x → r ≡ Err kind → ⊥
ok_err r x kind e f = absurd (cc)

one_only : {A : Type 0} (P : A → Type 0) (x : A) → P x → (k : ℕ) (y : A) → slice_get (x ∷ []) k ≡ Some y → P y
one_only P x h zero y e = subst P (some_is x y e) h
one_only P x h (suc k) y e = absurd (none_is y e)

is_zero : (c : ℤ) → pos 9223372036854775808 +ℤ c ≡ pos 9223372036854775808 → pos 0 ≡ c
is_zero c e = omega (arith, ints, e)

-- joined with nothing, the cost so far stays in range
fits_range : (cost : Option ℤ) → order_word true Plus cost ≡ pos 9223372036854775808 → ranged (join_onto Plus cost (pos 0)) ≡ Ok (pos 0)
fits_range None e = refl
fits_range (Some c) e = subst (λ (x : ℤ). ranged (join_onto Plus (Some x) (pos 0)) ≡ Ok (pos 0)) (is_zero c e) refl

effect_at : (s : PlainState) (to : ℕ) → effect_value idle s [] (effects.Number 0 (nums.Fixed (pos to))) ≡ Ok (0, Number (pos to))
effect_at s to = rw (value_fixed idle s [] (pos to)) refl

abbrev NoEffectFails : PlainState → FaultKind → Transition × List ℕ → Type 0
NoEffectFails s kind t = (i : ℕ) (e : Effect) → slice_get t.0.effects i ≡ Some e → effect_value idle s t.1 e ≡ Err kind → ⊥

abbrev NoConditionFails : PlainState → FaultKind → Transition × List ℕ → Type 0
NoConditionFails s kind t = (j : ℕ) (e : Cond) → slice_get t.0.preconditions j ≡ Some e → cond_value idle s e t.1 ≡ Err kind → ⊥

some_pos : (w : ℤ) → ◌≡◌ {A = Result (Option ℤ) FaultKind} (Ok (Some (pos 0))) (Ok (Some w)) → pos 0 ≡ w
some_pos w e = cc

none_met : (s : PlainState) (cost : Option ℤ) → IsStop true 0 refl s → order_word true Plus cost ≡ pos 9223372036854775808 → (prune : Bool) (spot : Spot) (kind : FaultKind) → MeetsIn idle prune cost s spot kind → ⊥
none_met s cost stop word prune (spots.Constraint i) kind h = none_is h.1.0 h.1.1
none_met s cost stop word prune (spots.BaseCondition i j) kind h =
    one_only (λ (b : BaseCase). (j : ℕ) (e : Cond) → slice_get b.conditions j ≡ Some e → cond_value idle s e [] ≡ Err kind → ⊥) _
    (one_only (λ (e : Cond). cond_value idle s e [] ≡ Err kind → ⊥) (is_at 3) (ok_err _ _ kind (value_at idle s [] 3)))
    i h.1.0 h.1.2 j h.1.1 h.1.3 h.1.4
none_met s cost stop word prune (spots.BaseCost i) kind h = one_only (λ (b : BaseCase). num_value idle s b.cost [] ≡ Err kind → ⊥) _ (ok_err _ _ kind (value_fixed idle s [] (pos 0))) i h.1.0 h.1.1 h.1.2
none_met s cost stop word prune spots.Total kind h = not_base true 0 refl s h.0.0 stop h.0.1
none_met s cost stop word prune (spots.Bound i) kind h = none_is h.1.0 h.1.1
none_met s cost stop word prune (spots.Precondition g j) kind h =
    of_ground (NoConditionFails s kind) (λ name from to. one_only (λ (e : Cond). cond_value idle s e [] ≡ Err kind → ⊥) (is_at from) (ok_err _ _ kind (value_at idle s [] from))) g h.1.0 h.1.2 j h.1.1 h.1.3 h.1.4
none_met s cost stop word prune (spots.Weight g) kind h =
    of_ground (λ (t : Transition × List ℕ). weight_of idle s t ≡ Err kind → ⊥) (λ name from to. ok_err _ _ kind (weight_at true 0 refl name from to s)) g h.1.0 h.1.1 h.1.2
none_met s cost stop word prune (spots.Cost g) kind h =
    of_ground (λ (t : Transition × List ℕ). (w : ℤ) → weight_of idle s t ≡ Ok (Some w) → ranged (join_onto Plus cost w) ≡ Err kind → ⊥)
    (λ name from to w is. ok_err _ (pos 0) kind (subst (λ (x : ℤ). ranged (join_onto Plus cost x) ≡ Ok (pos 0)) (some_pos w (sym (weight_at true 0 refl name from to s) ∙ is)) (fits_range cost word)))
    g h.1.0 h.1.2 h.1.1 h.1.3 h.1.4
none_met s cost stop word prune (spots.Effect g i) kind h =
    of_ground (NoEffectFails s kind) (λ name from to. one_only (λ (e : Effect). effect_value idle s [] e ≡ Err kind → ⊥) (effects.Number 0 (nums.Fixed (pos to))) (ok_err _ _ kind (effect_at s to))) g h.1.0 h.1.2 i h.1.1 h.1.3 h.1.4

pub none_meets : (prune : Bool) (steps : List ℕ) (spot : Spot) (kind : FaultKind) → Meets idle prune steps spot kind → ⊥
none_meets prune steps spot kind h = none_met h.0 h.1 (path_stops true 0 refl steps h.0 h.1 h.2) (path_word steps h.0 h.1 h.2) prune spot kind h.3

-- ---- the gaining one: a round betters the cost

there_and_back : Path gaining (0 ∷ 1 ∷ []) (at 0) (Some (pos 2))
there_and_back =
    (at 1, Some (pos 1), there_step false 1 refl, in_range 1 (small 1 (omega arith)), (at 0, Some (pos 1), back_step false 1 refl, in_range 2 (small 2 (omega arith)), (refl, refl)))

betters : NoRoundBetters gaining → ⊥
betters h = h (0 ∷ 1 ∷ []) (at 0) ((Some (pos 2), there_and_back), inner_at false 1 refl 0 refl) 0 2 (at 0) None (Some (pos 2)) (omega arith) (omega arith) (refl, refl) there_and_back (omega (arith, ints))

pub there : Path idle (0 ∷ []) (at 1) (Some (pos 0))
there = (at 1, Some (pos 0), there_step true 0 refl, in_range 0 (small 0 (omega arith)), (refl, refl))

not_fewer : AreStates idle (at 0 ∷ []) → ⊥
not_fewer h = zero_one (has_one (at 0) (at 1) (h (0 ∷ []) (at 1) ((Some (pos 0), there), inner_at true 0 refl 1 refl)))

pub worked_small : LawWorkedSmall
worked_small =
    record {
      states = are_states true 0 refl;
      not_fewer = not_fewer;
      no_round = no_round;
      enough = finite idle two_states (are_states true 0 refl) no_round;
      no_fault = none_meets;
      gaining_states = are_states false 1 refl;
      a_round_betters = betters;
    }
