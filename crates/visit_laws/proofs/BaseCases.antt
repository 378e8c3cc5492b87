-- What is found of the base cases of a state.
use Rattle.std.proofs.Common.{◌≡◌, ℕ, zero, suc, ◌+◌, Bool, true, false, if◌then◌else◌, List, [], ◌∷◌, ◌++◌, slice_get, take, fold, Option, Some, None, Result, Ok, Err, ℤ, refl, sym, ap, subst, ◌∙◌, arith, zero-add}
use Rattle.std.specs.Prelude.{option_to_list}
use Rattle.dp_base.specs.Results.{◌>>=◌}
use Rattle.dp_model.specs.Costs.{better_of}
use Rattle.dp_model.specs.Evaluation.{num_value}
use Rattle.dp_model.specs.declared.answers.FaultKind.{FaultKind}
use Rattle.dp_model.specs.declared.answers.Spot.{Spot}
use Rattle.dp_model.specs.declared.answers.Spot.TheVariants as spots
use Rattle.dp_model.specs.declared.parts.BaseCase.{BaseCase}
use Rattle.dp_model.specs.declared.parts.PlainState.{PlainState}
use Rattle.dp_model.specs.declared.whole.Model.{Model}
use Rattle.dp_steps.specs.States.{Allowed, Base, Inner, all_true, case_cost, case_costs}
use Rattle.dp_steps.specs.Faults.{HasValue, ComesTo, MeetsIn}
use Rattle.spot_eval.specs.Answers.{at_spot}
use Rattle.spot_eval.specs.declared.ends.SpotFault.{SpotFault}
use Rattle.spot_eval.specs.Looks.{all_at, allowed_at, base_at, best_case, case_at, spot_of, with_better}
use Rattle.spot_eval.specs.declared.tests.Tests.TheVariants.{BaseConditions}
use Rattle.visit_laws.specs.BaseCases.{BaseCostMet, BaseFaults, BaseFound, ConditionMet, InnerFound}
use Rattle.visit_laws.proofs.Spots.{without_spot, from_value, fault_there, bind_assoc, two_values}
use Rattle.visit_laws.proofs.Best.{best_over, over_number, over_one}
use Rattle.visit_laws.proofs.Tests.{all_values, first_fault, test_met}
use Rattle.visit_laws.proofs.Constraints.{allowed_found, constraint_faults}

-- ---- one base case

case_step : (spot : Spot) (q : Result Bool SpotFault) (n : Result ℤ FaultKind) → without_spot (q >>= λ held. if held then (at_spot spot n >>= λ c. Ok (Some c)) else Ok None) ≡ (without_spot q >>= λ held. if held then (n >>= λ c. Ok (Some c)) else Ok None)
case_step spot (Err met) n = refl
case_step spot (Ok false) n = refl
case_step spot (Ok true) (Ok c) = refl
case_step spot (Ok true) (Err kind) = refl

pub case_value : (m : Model) (s : PlainState) (i : ℕ) (b : BaseCase) → without_spot (case_at m s i b) ≡ case_cost m s b
case_value m s i b =
    rw (← all_values m s (BaseConditions i) [] 0 b.conditions) (case_step (spots.BaseCost i) (all_at m s (BaseConditions i) [] 0 b.conditions) (num_value m s b.cost []))

-- ---- all of them

costs_step : (m : Model) (s : PlainState) (b : BaseCase) (bs : List BaseCase) (r : Result (Option ℤ) FaultKind) → case_cost m s b ≡ r → case_costs m s (b ∷ bs) ≡ (r >>= λ c. case_costs m s bs >>= λ costs. Ok (option_to_list c ++ costs))
costs_step m s b bs (Err kind) q = rw q refl
costs_step m s b bs (Ok c) q = rw q (simp bind_assoc)

pub costs_cons : (m : Model) (s : PlainState) (b : BaseCase) (bs : List BaseCase) → case_costs m s (b ∷ bs) ≡ (case_cost m s b >>= λ c. case_costs m s bs >>= λ costs. Ok (option_to_list c ++ costs))
costs_cons m s b bs = costs_step m s b bs (case_cost m s b) refl

-- The best of all base cases is the best of their costs, and the first fault is theirs.
best_step : (m : Model) (s : PlainState) (i : ℕ) (best : Option ℤ) (bs : List BaseCase) (q : Result (Option ℤ) SpotFault) → ((other : Option ℤ) → without_spot (best_case m s (i + 1) other bs) ≡ (case_costs m s bs >>= λ costs. Ok (best_over m.minimize other costs))) → without_spot (q >>= λ c. best_case m s (i + 1) (with_better m.minimize best c) bs) ≡ ((without_spot q >>= λ c. case_costs m s bs >>= λ costs. Ok (option_to_list c ++ costs)) >>= λ costs. Ok (best_over m.minimize best costs))
best_step m s i best bs (Err met) rest = refl
best_step m s i best bs (Ok c) rest = rw (rest (with_better m.minimize best c)) (joined (case_costs m s bs))
  where
    joined : (r : Result (List ℤ) FaultKind) → (r >>= λ costs. Ok (best_over m.minimize (with_better m.minimize best c) costs)) ≡ ((r >>= λ costs. Ok (option_to_list c ++ costs)) >>= λ costs. Ok (best_over m.minimize best costs))
    joined (Ok costs) = ap Ok (over_one m.minimize best c costs)
    joined (Err kind) = refl

pub best_value : (m : Model) (s : PlainState) (i : ℕ) (best : Option ℤ) (bs : List BaseCase) → without_spot (best_case m s i best bs) ≡ (case_costs m s bs >>= λ costs. Ok (best_over m.minimize best costs))
best_value m s i best [] = refl
best_value m s i best (b ∷ bs) =
    rw (costs_cons m s b bs, ← case_value m s i b) (best_step m s i best bs (case_at m s i b) (λ other. best_value m s (i + 1) other bs))

-- ---- base and inner states

-- what the costs of the satisfied base cases are where their best is this
costs_of : (m : Model) (s : PlainState) (base : Option ℤ) (r : Result (List ℤ) FaultKind) → (r >>= λ costs. Ok (best_over m.minimize None costs)) ≡ Ok base → (costs : List ℤ) × (r ≡ Ok costs) × (best_over m.minimize None costs ≡ base)
costs_of m s base (Ok costs) e = (costs, refl, cc)
costs_of m s base (Err kind) e = absurd (cc)

pub best_costs : (m : Model) (s : PlainState) (base : Option ℤ) → best_case m s 0 None m.base_cases ≡ Ok base → (costs : List ℤ) × (case_costs m s m.base_cases ≡ Ok costs) × (best_over m.minimize None costs ≡ base)
best_costs m s base e = costs_of m s base (case_costs m s m.base_cases) (sym (best_value m s 0 None m.base_cases) ∙ ap without_spot e)

pub costs_best : (m : Model) (s : PlainState) (costs : List ℤ) → case_costs m s m.base_cases ≡ Ok costs → best_case m s 0 None m.base_cases ≡ Ok (best_over m.minimize None costs)
costs_best m s costs e =
    from_value (best_case m s 0 None m.base_cases) (best_over m.minimize None costs) (best_value m s 0 None m.base_cases ∙ ap (λ (r : Result (List ℤ) FaultKind). r >>= λ costs. Ok (best_over m.minimize None costs)) e)

base_costs : (m : Model) (s : PlainState) (base : ℤ) (costs : List ℤ) → case_costs m s m.base_cases ≡ Ok costs → best_over m.minimize None costs ≡ Some base → (first : ℤ) × (others : List ℤ) × (case_costs m s m.base_cases ≡ Ok (first ∷ others)) × (base ≡ fold (better_of m.minimize) first others)
base_costs m s base [] e best = absurd (cc)
base_costs m s base (first ∷ others) e best =
    let most = over_number m.minimize first others in
    let same : Some base ≡ Some (fold (better_of m.minimize) first others) = sym best ∙ most in
    (first, others, e, cc)

inner_costs : (m : Model) (s : PlainState) (costs : List ℤ) → case_costs m s m.base_cases ≡ Ok costs → best_over m.minimize None costs ≡ None → case_costs m s m.base_cases ≡ Ok []
inner_costs m s [] e best = e
inner_costs m s (first ∷ others) e best =
    let most = over_number m.minimize first others in
    let clash : None ≡ Some (fold (better_of m.minimize) first others) = sym best ∙ most in
    absurd (cc)

-- the best of the base cases of an allowed state says what the state is
pub is_base : (m : Model) (s : PlainState) (base : ℤ) → Allowed m s → best_case m s 0 None m.base_cases ≡ Ok (Some base) → Base m s base
is_base m s base allowed e =
    let costs = best_costs m s (Some base) e in
    record { allowed = allowed; best = base_costs m s base costs.0 costs.1 costs.2 }

pub is_inner : (m : Model) (s : PlainState) → Allowed m s → best_case m s 0 None m.base_cases ≡ Ok None → Inner m s
is_inner m s allowed e =
    let costs = best_costs m s None e in
    record { allowed = allowed; open_cases = inner_costs m s costs.0 costs.1 costs.2 }

pub base_best : (m : Model) (s : PlainState) (base : ℤ) → Base m s base → best_case m s 0 None m.base_cases ≡ Ok (Some base)
base_best m s base b =
    let most = over_number m.minimize b.best.0 b.best.1 in
    costs_best m s (b.best.0 ∷ b.best.1) b.best.2 ∙ ap Ok (most ∙ ap Some (sym b.best.3))

pub inner_best : (m : Model) (s : PlainState) → Inner m s → best_case m s 0 None m.base_cases ≡ Ok None
inner_best m s inner = costs_best m s [] inner.open_cases

-- a base state is not inner
pub not_inner : (m : Model) (s s' : PlainState) (base : ℤ) → s ≡ s' → Base m s base → Inner m s' → ⊥
not_inner m s s' base same is inner =
    let at : Inner m s = subst (λ (x : PlainState). Inner m x) (sym same) inner in
    let clash : Ok (Some base) ≡ Ok None = sym (base_best m s base is) ∙ inner_best m s at in
    cc

-- ---- what is found

found_base : (m : Model) (s : PlainState) (base : ℤ) (q : Result Bool SpotFault) → allowed_at m s ≡ q → (q >>= λ allowed. if allowed then best_case m s 0 None m.base_cases else Ok None) ≡ Ok (Some base) → Base m s base
found_base m s base (Ok true) q e = is_base m s base ((allowed_found m s).0 q) e
found_base m s base (Ok false) q e = absurd (cc)
found_base m s base (Err met) q e = absurd (cc)

pub base_found : BaseFound
base_found m s base = (
  λ e. found_base m s base (allowed_at m s) refl e,
  λ b. rw ((allowed_found m s).1 b.allowed) (base_best m s base b),
)

pub inner_found : InnerFound
inner_found m s allowed =
    let found = (allowed_found m s).1 allowed in
    (λ e. is_inner m s allowed (rw found at e), λ inner. rw found (inner_best m s inner))

-- ---- the first fault

-- the fault of a base case, where none before it meets a fault
pub record FirstCase (m : Model) (s : PlainState) (from : ℕ) (cases : List BaseCase) (met : SpotFault) : Type 0 where
  pub place : ℕ
  pub «case» : BaseCase
  pub there : slice_get cases place ≡ Some «case»
  pub fault : case_at m s (from + place) «case» ≡ Err met
  pub before : HasValue (case_costs m s (take place cases))

first_step : (m : Model) (s : PlainState) (i : ℕ) (best : Option ℤ) (b : BaseCase) (bs : List BaseCase) (met : SpotFault) (q : Result (Option ℤ) SpotFault) → case_at m s i b ≡ q → ((other : Option ℤ) → best_case m s (i + 1) other bs ≡ Err met → FirstCase m s (i + 1) bs met) → (q >>= λ c. best_case m s (i + 1) (with_better m.minimize best c) bs) ≡ Err met → FirstCase m s i (b ∷ bs) met
first_step m s i best b bs met (Err other) q rest e =
    let at : i + 0 ≡ i = omega arith in
    record { place = zero; «case» = b; there = refl; fault = rw at (q ∙ e); before = ([], refl) }
first_step m s i best b bs met (Ok c) q rest e =
    let f = rest (with_better m.minimize best c) e in
    let at : i + suc f.place ≡ (i + 1) + f.place = omega arith in
    let value : case_cost m s b ≡ Ok c = sym (case_value m s i b) ∙ ap without_spot q in
    let costs : case_costs m s (b ∷ take f.place bs) ≡ Ok (option_to_list c ++ f.before.0) = rw (costs_cons m s b (take f.place bs), value, f.before.1) refl in
    record { place = suc f.place; «case» = f.«case»; there = f.there; fault = rw at f.fault; before = (option_to_list c ++ f.before.0, costs) }

pub first_case : (m : Model) (s : PlainState) (i : ℕ) (best : Option ℤ) (bs : List BaseCase) (met : SpotFault) → best_case m s i best bs ≡ Err met → FirstCase m s i bs met
first_case m s i best [] met e = absurd (cc)
first_case m s i best (b ∷ bs) met e = first_step m s i best b bs met (case_at m s i b) refl (λ other. first_case m s (i + 1) other bs met) e

case_met : (m : Model) (prune : Bool) (cost : Option ℤ) (s : PlainState) (i : ℕ) (b : BaseCase) (met : SpotFault) (q : Result Bool SpotFault) → all_at m s (BaseConditions i) [] 0 b.conditions ≡ q → slice_get m.base_cases i ≡ Some b → ComesTo m s i → (q >>= λ held. if held then (at_spot (spots.BaseCost i) (num_value m s b.cost []) >>= λ c. Ok (Some c)) else Ok None) ≡ Err met → MeetsIn m prune cost s met.spot met.kind
case_met m prune cost s i b met (Err other) q there comes e =
    let f = first_fault m s (BaseConditions i) [] b.conditions 0 met (q ∙ cc) in
    let at : met.spot ≡ spot_of (BaseConditions i) f.place = f.spot ∙ ap (spot_of (BaseConditions i)) (zero-add f.place) in
    rw at ((comes, (b, there, f.before)), (b, f.test, there, f.there, f.fault))
case_met m prune cost s i b met (Ok false) q there comes e = absurd (cc)
case_met m prune cost s i b met (Ok true) q there comes e =
    let fault = cost_fault (num_value m s b.cost []) e in
    let held : all_true m s [] b.conditions ≡ Ok true = sym (all_values m s (BaseConditions i) [] 0 b.conditions) ∙ ap without_spot q in
    rw fault.1 ((comes, (b, there, held)), (b, there, fault.0))
  where
    cost_fault : (n : Result ℤ FaultKind) → (at_spot (spots.BaseCost i) n >>= λ c. Ok (Some c)) ≡ Err met → (n ≡ Err met.kind) × (met.spot ≡ spots.BaseCost i)
    cost_fault (Ok c) e = absurd (cc)
    cost_fault (Err kind) e = fault_there {A = ℤ} (spots.BaseCost i) (Err kind) met cc

-- a fault of the base cases of an allowed state is met there
pub best_met : (m : Model) (prune : Bool) (cost : Option ℤ) (s : PlainState) (met : SpotFault) → Allowed m s → best_case m s 0 None m.base_cases ≡ Err met → MeetsIn m prune cost s met.spot met.kind
best_met m prune cost s met allowed e =
    let f = first_case m s 0 None m.base_cases met e in
    let fault : case_at m s f.place f.«case» ≡ Err met = rw zero-add at f.fault in
    case_met m prune cost s f.place f.«case» met (all_at m s (BaseConditions f.place) [] 0 f.«case».conditions) refl f.there (allowed, f.before) fault

fault_found : (m : Model) (prune : Bool) (cost : Option ℤ) (s : PlainState) (met : SpotFault) (q : Result Bool SpotFault) → allowed_at m s ≡ q → (q >>= λ allowed. if allowed then best_case m s 0 None m.base_cases else Ok None) ≡ Err met → MeetsIn m prune cost s met.spot met.kind
fault_found m prune cost s met (Ok true) q e = best_met m prune cost s met ((allowed_found m s).0 q) e
fault_found m prune cost s met (Ok false) q e = absurd (cc)
fault_found m prune cost s met (Err other) q e = constraint_faults m prune cost s met (q ∙ cc)

pub base_faults : BaseFaults
base_faults m prune cost s met e = fault_found m prune cost s met (allowed_at m s) refl e

-- ---- each fault that is met is found

-- the base cases before one have costs, and it meets a fault
met_here : (m : Model) (s : PlainState) (bs : List BaseCase) (i k : ℕ) (best : Option ℤ) (b : BaseCase) (costs : List ℤ) (met : SpotFault) → case_costs m s (take k bs) ≡ Ok costs → slice_get bs k ≡ Some b → case_at m s (i + k) b ≡ Err met → best_case m s i best bs ≡ Err met
met_here m s [] i k best b costs met before there fault = absurd (cc)
met_here m s (x ∷ xs) i zero best b costs met before there fault =
    let same : x ≡ b = cc in
    let at : i + 0 ≡ i = omega arith in
    let here : case_at m s i b ≡ Err met = rw at at fault in
    rw (same, here) refl
met_here m s (x ∷ xs) i (suc k) best b costs met before there fault =
    let both = two_values (case_cost m s x) (case_costs m s (take k xs)) (λ (c : Option ℤ) (cs : List ℤ). option_to_list c ++ cs) costs (sym (costs_cons m s x (take k xs)) ∙ before) in
    let value = from_value (case_at m s i x) both.0 (case_value m s i x ∙ both.2) in
    let at : i + suc k ≡ (i + 1) + k = omega arith in
    rw value (met_here m s xs (i + 1) k (with_better m.minimize best both.0) b both.1 met both.3 there (rw at at fault))

base_met : (m : Model) (s : PlainState) (i : ℕ) (b : BaseCase) (met : SpotFault) → ComesTo m s i → slice_get m.base_cases i ≡ Some b → case_at m s i b ≡ Err met → base_at m s ≡ Err met
base_met m s i b met comes there fault =
    let at : 0 + i ≡ i = zero-add i in
    rw ((allowed_found m s).1 comes.0) (met_here m s m.base_cases 0 i None b comes.1.0 met comes.1.1 there (rw at fault))

-- a place holds one case
one_case : (m : Model) (i : ℕ) (b c : BaseCase) → slice_get m.base_cases i ≡ Some b → slice_get m.base_cases i ≡ Some c → c ≡ b
one_case m i b c there other = let same : Some c ≡ Some b = sym other ∙ there in cc

pub condition_met : ConditionMet
condition_met m prune cost s i j kind meets =
    let comes = meets.0.0 in
    let holds = meets.0.1 in
    let fault = meets.1 in
    let same = one_case m i fault.0 holds.0 fault.2 holds.1 in
    let before : all_true m s [] (take j fault.0.conditions) ≡ Ok true = subst (λ (b : BaseCase). all_true m s [] (take j b.conditions) ≡ Ok true) same holds.2 in
    let test = test_met m s (BaseConditions i) [] fault.0.conditions 0 j j fault.1 kind (zero-add j) before fault.3 fault.4 in
    base_met m s i fault.0 (record { spot = spots.BaseCondition i j; kind = kind }) comes fault.2 (rw test refl)

pub base_cost_met : BaseCostMet
base_cost_met m prune cost s i kind meets =
    let comes = meets.0.0 in
    let holds = meets.0.1 in
    let fault = meets.1 in
    let same = one_case m i fault.0 holds.0 fault.1 holds.1 in
    let whole : all_true m s [] fault.0.conditions ≡ Ok true = subst (λ (b : BaseCase). all_true m s [] b.conditions ≡ Ok true) same holds.2 in
    let held = from_value (all_at m s (BaseConditions i) [] 0 fault.0.conditions) true (all_values m s (BaseConditions i) [] 0 fault.0.conditions ∙ whole) in
    base_met m s i fault.0 (record { spot = spots.BaseCost i; kind = kind }) comes fault.1 (rw (held, fault.2) refl)
