-- What is found of the cost so far and of the state that a transition leads to.
use Rattle.std.proofs.Common.{◌≡◌, ℕ, zero, suc, ◌+◌, Bool, true, List, [], ◌∷◌, slice_get, take, Option, Some, None, Result, Ok, Err, IfSome, ℤ, refl, sym, ap, subst, ◌∙◌, arith, zero-add}
use Rattle.dp_base.specs.Results.{◌>>=◌, in_turn}
use Rattle.dp_model.specs.Costs.{InRange, join, join_onto, ranged}
use Rattle.dp_model.specs.StepTexts.{ground_of}
use Rattle.dp_model.specs.declared.answers.FaultKind.{FaultKind}
use Rattle.dp_model.specs.declared.answers.Spot.{Spot}
use Rattle.dp_model.specs.declared.answers.Spot.TheVariants as spots
use Rattle.dp_model.specs.declared.parts.Effect.{Effect}
use Rattle.dp_model.specs.declared.parts.Transition.{Transition}
use Rattle.dp_model.specs.declared.parts.PlainState.{PlainState}
use Rattle.dp_model.specs.declared.parts.PlainValue.{PlainValue}
use Rattle.dp_model.specs.declared.whole.Model.{Model}
use Rattle.dp_steps.specs.States.{effect_value, is_enabled, next_state, weight_of, with_changes}
use Rattle.dp_steps.specs.Faults.{HasValue, MayStep, MeetsIn}
use Rattle.spot_eval.specs.Answers.{at_spot}
use Rattle.spot_eval.specs.declared.ends.SpotFault.{SpotFault}
use Rattle.spot_eval.specs.Moves.{cost_at, effects_at, joined_at, next_at}
use Rattle.visit_laws.specs.Steps.{CostFaults, CostFound, CostMet, EffectFaults, EffectMet, NextFound, StepFound, StepMade, WeightMet}
use Rattle.visit_laws.proofs.Spots.{without_spot, from_value, to_value, fault_there, two_values}
use Rattle.visit_laws.proofs.Costs.{join_none, join_some, ranged_value, value_ranged}

-- ---- the cost so far

-- the join of a weight onto a cost so far, where the weight has this value
abbrev pub Joins : Model → PlainState → Option ℤ → Transition × List ℕ → Option ℤ → Type 0
Joins m s cost t joined = (weight : Option ℤ) × (weight_of m s t ≡ Ok weight) × (joined ≡ join m.join cost weight) × IfSome joined InRange

-- a value that is told as one that is there
told_some : (spot : Spot) (v : Result ℤ FaultKind) (joined : Option ℤ) → (at_spot spot v >>= λ c. Ok (Some c)) ≡ Ok joined → (x : ℤ) × (v ≡ Ok x) × (joined ≡ Some x)
told_some spot (Ok x) joined e = (x, refl, cc)
told_some spot (Err kind) joined e = absurd (cc)

cost_joins : (m : Model) (s : PlainState) (cost : Option ℤ) (g : ℕ) (t : Transition × List ℕ) (joined : Option ℤ) (r : Result (Option ℤ) FaultKind) → IfSome cost InRange → weight_of m s t ≡ r → (at_spot (spots.Weight g) r >>= joined_at m cost g) ≡ Ok joined → Joins m s cost t joined
cost_joins m s cost g t joined (Ok None) range q e =
    let same : cost ≡ joined = cc in
    (None, q, sym same ∙ sym (join_none m.join cost), subst (λ (c : Option ℤ). IfSome c InRange) same range)
cost_joins m s cost g t joined (Ok (Some w)) range q e =
    let told = told_some (spots.Cost g) (ranged (join_onto m.join cost w)) joined e in
    let value = ranged_value (join_onto m.join cost w) told.0 told.1 in
    let same : joined ≡ Some (join_onto m.join cost w) = told.2 ∙ ap Some value.1 in
    (Some w, q, same ∙ sym (join_some m.join cost w), rw same value.0)
cost_joins m s cost g t joined (Err kind) range q e = absurd (cc)

joins_cost : (m : Model) (s : PlainState) (cost : Option ℤ) (g : ℕ) (t : Transition × List ℕ) (joined weight : Option ℤ) → weight_of m s t ≡ Ok weight → joined ≡ join m.join cost weight → IfSome joined InRange → cost_at m s cost g t ≡ Ok joined
joins_cost m s cost g t joined None q same range = rw q (ap Ok (sym (same ∙ join_none m.join cost)))
joins_cost m s cost g t joined (Some w) q same range =
    let some : joined ≡ Some (join_onto m.join cost w) = same ∙ join_some m.join cost w in
    let value = value_ranged (join_onto m.join cost w) (rw some at range) in
    rw (q, value) (ap Ok (sym some))

pub cost_found : CostFound
cost_found m s cost g t joined range =
    (λ e. cost_joins m s cost g t joined (weight_of m s t) range refl e, λ joins. joins_cost m s cost g t joined joins.0 joins.1 joins.2 joins.3)

pub fault_some : (spot : Spot) (v : Result ℤ FaultKind) (met : SpotFault) → (at_spot spot v >>= λ c. Ok (Some c)) ≡ Err met → (v ≡ Err met.kind) × (met.spot ≡ spot)
fault_some spot (Ok x) met e = absurd (cc)
fault_some spot (Err kind) met e = fault_there {A = ℤ} spot (Err kind) met cc

cost_met : (m : Model) (prune : Bool) (cost : Option ℤ) (s : PlainState) (g : ℕ) (t : Transition × List ℕ) (met : SpotFault) (r : Result (Option ℤ) FaultKind) → weight_of m s t ≡ r → MayStep m s g → ground_of m g ≡ Some t → (at_spot (spots.Weight g) r >>= joined_at m cost g) ≡ Err met → MeetsIn m prune cost s met.spot met.kind
cost_met m prune cost s g t met (Ok None) q may there e = absurd (cc)
cost_met m prune cost s g t met (Ok (Some w)) q may there e =
    let fault = fault_some (spots.Cost g) (ranged (join_onto m.join cost w)) met e in
    rw fault.1 ((may, (t, w, there, q)), (t, w, there, q, fault.0))
cost_met m prune cost s g t met (Err kind) q may there e =
    let fault = fault_there {A = Option ℤ} (spots.Weight g) (Err kind) met cc in
    rw fault.1 (may, (t, there, q ∙ fault.0))

pub cost_faults : CostFaults
cost_faults m prune cost s g t met may there e = cost_met m prune cost s g t met (weight_of m s t) refl may there e

-- ---- effects

effects_step : (spot : Spot) (r : Result (ℕ × PlainValue) FaultKind) (rest : Result (List (ℕ × PlainValue)) SpotFault) → without_spot (at_spot spot r >>= λ change. rest >>= λ changes. Ok (change ∷ changes)) ≡ (r >>= λ change. without_spot rest >>= λ changes. Ok (change ∷ changes))
effects_step spot (Err kind) rest = refl
effects_step spot (Ok change) (Ok changes) = refl
effects_step spot (Ok change) (Err met) = refl

-- the first fault of effects
pub record FirstEffect (m : Model) (s : PlainState) (g : ℕ) (given : List ℕ) (from : ℕ) (es : List Effect) (met : SpotFault) : Type 0 where
  pub place : ℕ
  pub effect : Effect
  pub there : slice_get es place ≡ Some effect
  pub fault : effect_value m s given effect ≡ Err met.kind
  pub before : HasValue (in_turn (effect_value m s given) (take place es))
  pub spot : met.spot ≡ spots.Effect g (from + place)

module _ (m : Model) (s : PlainState) (g : ℕ) (given : List ℕ) where
  pub effects_value : (i : ℕ) (es : List Effect) → without_spot (effects_at m s g given i es) ≡ in_turn (effect_value m s given) es
  effects_value i [] = refl
  effects_value i (e ∷ es) = rw (← effects_value (i + 1) es) (effects_step (spots.Effect g i) (effect_value m s given e) (effects_at m s g given (i + 1) es))

  rest_fault : (change : ℕ × PlainValue) (rest : Result (List (ℕ × PlainValue)) SpotFault) (met : SpotFault) → (rest >>= λ changes. Ok (change ∷ changes)) ≡ Err met → rest ≡ Err met
  rest_fault change (Ok changes) met e = absurd (cc)
  rest_fault change (Err other) met e = cc

  effect_step : (e : Effect) (es : List Effect) (i : ℕ) (met : SpotFault) (r : Result (ℕ × PlainValue) FaultKind) → effect_value m s given e ≡ r → (effects_at m s g given (i + 1) es ≡ Err met → FirstEffect m s g given (i + 1) es met) → (at_spot (spots.Effect g i) r >>= λ change. effects_at m s g given (i + 1) es >>= λ changes. Ok (change ∷ changes)) ≡ Err met → FirstEffect m s g given i (e ∷ es) met
  effect_step e es i met (Err kind) q rest h =
      let told = fault_there {A = ℕ × PlainValue} (spots.Effect g i) (Err kind) met cc in
      let at : i + 0 ≡ i = omega arith in
      record { place = zero; effect = e; there = refl; fault = q ∙ told.0; before = ([], refl); spot = rw at told.1 }
  effect_step e es i met (Ok change) q rest h =
      let f = rest (rest_fault change (effects_at m s g given (i + 1) es) met h) in
      let at : i + suc f.place ≡ (i + 1) + f.place = omega arith in
      let values : in_turn (effect_value m s given) (e ∷ take f.place es) ≡ Ok (change ∷ f.before.0) = rw (q, f.before.1) refl in
      record { place = suc f.place; effect = f.effect; there = f.there; fault = f.fault; before = (change ∷ f.before.0, values); spot = rw at f.spot }

  pub first_effect : (es : List Effect) (i : ℕ) (met : SpotFault) → effects_at m s g given i es ≡ Err met → FirstEffect m s g given i es met
  first_effect [] i met h = absurd (cc)
  first_effect (e ∷ es) i met h = effect_step e es i met (effect_value m s given e) refl (first_effect es (i + 1) met) h

-- the state after changes
abbrev pub changed : PlainState → List (ℕ × PlainValue) → PlainState
changed s changes = record { values = with_changes s.values changes }

next_step : (s : PlainState) (q : Result (List (ℕ × PlainValue)) SpotFault) → without_spot (q >>= λ changes. Ok (changed s changes)) ≡ (without_spot q >>= λ changes. Ok (changed s changes))
next_step s (Ok changes) = refl
next_step s (Err met) = refl

pub next_value : (m : Model) (s : PlainState) (g : ℕ) (t : Transition × List ℕ) → without_spot (next_at m s g t) ≡ next_state m s t
next_value m s g t = rw (← effects_value m s g t.1 0 t.0.effects) (next_step s (effects_at m s g t.1 0 t.0.effects))

pub next_found : NextFound
next_found m s g t next =
    let same = next_value m s g t in
    (λ e. sym same ∙ to_value (next_at m s g t) next e, λ e. from_value (next_at m s g t) next (same ∙ e))

pub next_fault : (s : PlainState) (q : Result (List (ℕ × PlainValue)) SpotFault) (met : SpotFault) → (q >>= λ changes. Ok (changed s changes)) ≡ Err met → q ≡ Err met
next_fault s (Ok changes) met e = absurd (cc)
next_fault s (Err other) met e = cc

pub effect_faults : EffectFaults
effect_faults m prune cost s g t joined met range may there found e =
    let f = first_effect m s g t.1 t.0.effects 0 met (next_fault s (effects_at m s g t.1 0 t.0.effects) met e) in
    let joins = (cost_found m s cost g t joined range).0 found in
    let at : met.spot ≡ spots.Effect g f.place = f.spot ∙ ap (λ (i : ℕ). spots.Effect g i) (zero-add f.place) in
    let in_range : IfSome (join m.join cost joins.0) InRange = subst (λ (c : Option ℤ). IfSome c InRange) joins.2 joins.3 in
    rw at ((may, (t, joins.0, there, joins.1, in_range, f.before)), (t, f.effect, there, f.there, f.fault))

-- the effects before one have values, and it meets a fault
effect_here : (m : Model) (s : PlainState) (g : ℕ) (given : List ℕ) (es : List Effect) (i k j : ℕ) (e : Effect) (changes : List (ℕ × PlainValue)) (kind : FaultKind) → i + k ≡ j → in_turn (effect_value m s given) (take k es) ≡ Ok changes → slice_get es k ≡ Some e → effect_value m s given e ≡ Err kind → effects_at m s g given i es ≡ Err (record { spot = spots.Effect g j; kind = kind })
effect_here m s g given [] i k j e changes kind at before there fault = absurd (cc)
effect_here m s g given (x ∷ xs) i zero j e changes kind at before there fault =
    let same : x ≡ e = cc in
    let place : i ≡ j = omega arith in
    rw (same, fault, place) refl
effect_here m s g given (x ∷ xs) i (suc k) j e changes kind at before there fault =
    let both = two_values (effect_value m s given x) (in_turn (effect_value m s given) (take k xs)) (λ (c : ℕ × PlainValue) (cs : List (ℕ × PlainValue)). c ∷ cs) changes before in
    rw (both.2, effect_here m s g given xs (i + 1) k j e both.1 kind (omega arith) both.3 there fault) refl

-- ---- steps

-- a number names one ground transition
pub same_ground : (m : Model) (g : ℕ) (t u : Transition × List ℕ) → ground_of m g ≡ Some t → ground_of m g ≡ Some u → u ≡ t
same_ground m g t u there other = let same : Some u ≡ Some t = sym other ∙ there in cc

pub step_found : StepFound
step_found m s cost g t joined next range may there found next_found' =
    let joins = (cost_found m s cost g t joined range).0 found in
    let enabled : is_enabled m s t ≡ Ok true = subst (λ (u : Transition × List ℕ). is_enabled m s u ≡ Ok true) (same_ground m g t may.2.0 there may.2.1) may.2.2 in
    (joins.0, record { inner = may.0; considered = may.1; move = (t, there, enabled, joins.1, (next_found m s g t next).0 next_found') }, joins.2, joins.3)

pub step_made : StepMade
step_made m s cost g t weight next range step there in_range =
    let same = same_ground m g t step.move.0 there step.move.1 in
    let weighs : weight_of m s t ≡ Ok weight = subst (λ (u : Transition × List ℕ). weight_of m s u ≡ Ok weight) same step.move.3 in
    let leads : next_state m s t ≡ Ok next = subst (λ (u : Transition × List ℕ). next_state m s u ≡ Ok next) same step.move.4 in
    ((cost_found m s cost g t (join m.join cost weight) range).1 (weight, weighs, refl, in_range), (next_found m s g t next).1 leads)

-- ---- each fault that is met is found

pub weight_met : WeightMet
weight_met m prune cost s g t kind there meets =
    let fault = meets.1 in
    let same = same_ground m g t fault.0 there fault.1 in
    let weight : weight_of m s t ≡ Err kind = subst (λ (u : Transition × List ℕ). weight_of m s u ≡ Err kind) same fault.2 in
    rw weight refl

pub joined_met : CostMet
joined_met m prune cost s g t kind there meets =
    let fault = meets.1 in
    let same = same_ground m g t fault.0 there fault.2 in
    let weight : weight_of m s t ≡ Ok (Some fault.1) = subst (λ (u : Transition × List ℕ). weight_of m s u ≡ Ok (Some fault.1)) same fault.3 in
    rw (weight, fault.4) refl

pub effect_met : EffectMet
effect_met m prune cost s g i t kind there meets =
    let changes = meets.0.1 in
    let fault = meets.1 in
    let same = same_ground m g t fault.0 there fault.2 in
    let other = same_ground m g t changes.0 there changes.2 in
    let before : HasValue (in_turn (effect_value m s t.1) (take i t.0.effects)) = subst (λ (u : Transition × List ℕ). HasValue (in_turn (effect_value m s u.1) (take i u.0.effects))) other changes.5 in
    let here : slice_get t.0.effects i ≡ Some fault.1 = subst (λ (u : Transition × List ℕ). slice_get u.0.effects i ≡ Some fault.1) same fault.3 in
    let value : effect_value m s t.1 fault.1 ≡ Err kind = subst (λ (u : Transition × List ℕ). effect_value m s u.1 fault.1 ≡ Err kind) same fault.4 in
    rw (effect_here m s g t.1 t.0.effects 0 i i fault.1 before.0 kind (zero-add i) before.1 here value) refl
