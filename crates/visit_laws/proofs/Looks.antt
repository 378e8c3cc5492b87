-- What is found of the floor of a state, and what a state is found to be.
use Rattle.std.proofs.Common.{◌≡◌, ℕ, zero, suc, ◌+◌, Bool, true, false, not, ◌==◌, if◌then◌else◌, List, [], ◌∷◌, length, slice_get, take, fold, Option, Some, None, Result, Ok, Err, ℤ, refl, sym, ap, subst, ◌∙◌, arith, zero-add}
use Rattle.std.proofs.lemmas.Bool.{false≢true}
use Rattle.dp_base.specs.Results.{◌>>=◌}
use Rattle.dp_model.specs.Costs.{better_of, join_onto}
use Rattle.dp_model.specs.Evaluation.{num_value}
use Rattle.dp_model.specs.declared.answers.FaultKind.{FaultKind}
use Rattle.dp_model.specs.declared.answers.Spot.{Spot}
use Rattle.dp_model.specs.declared.answers.Spot.TheVariants as spots
use Rattle.dp_model.specs.declared.trees.Num.{Num}
use Rattle.dp_model.specs.declared.parts.BaseCase.{BaseCase}
use Rattle.dp_model.specs.declared.parts.PlainState.{PlainState}
use Rattle.dp_model.specs.declared.whole.Model.{Model}
use Rattle.dp_steps.specs.States.{Allowed, Base, Forbidden, Inner}
use Rattle.dp_steps.specs.Bounds.{IsFloor, values_of}
use Rattle.dp_steps.specs.Faults.{HasValue, MeetsIn}
use Rattle.spot_eval.specs.Answers.{at_spot}
use Rattle.spot_eval.specs.declared.ends.SpotFault.{SpotFault}
use Rattle.spot_eval.specs.Looks.{all_at, allowed_at, base_at, best_case, floor_at, floor_of, looked_at, open_or_base, tightest_at, with_better}
use Rattle.spot_eval.specs.declared.tests.Tests.TheVariants.{BaseConditions, Constraints}
use Rattle.spot_eval.specs.declared.looks.Look.{Look}
use Rattle.spot_eval.specs.declared.looks.Look.TheVariants as looks
use Rattle.visit_laws.specs.Looks.{BoundMet, FloorFaults, FloorFound, LookFaults, LookedBase, LookedForbidden, LookedOpen, is_looked}
use Rattle.visit_laws.proofs.Spots.{without_spot, from_value, fault_there, two_values}
use Rattle.visit_laws.proofs.Tests.{first_fault}
use Rattle.visit_laws.proofs.Best.{best_over, over_number}
use Rattle.visit_laws.proofs.Costs.{join_some}
use Rattle.visit_laws.proofs.Constraints.{allowed_found, constraint_faults, constraint_met, forbidden_found}
use Rattle.visit_laws.proofs.BaseCases.{base_best, base_cost_met, best_met, condition_met, first_case, inner_best, is_base, is_inner}

-- ---- the tightest bound

tightest_step : (spot : Spot) (r : Result ℤ FaultKind) (minimize : Bool) (best : Option ℤ) (rest : Option ℤ → Result (Option ℤ) SpotFault) (values : Result (List ℤ) FaultKind) → ((other : Option ℤ) → without_spot (rest other) ≡ (values >>= λ bounds. Ok (best_over minimize other bounds))) → without_spot (at_spot spot r >>= λ bound. rest (with_better minimize best (Some bound))) ≡ ((r >>= λ bound. values >>= λ bounds. Ok (bound ∷ bounds)) >>= λ bounds. Ok (best_over minimize best bounds))
tightest_step spot (Err kind) minimize best rest values h = refl
tightest_step spot (Ok bound) minimize best rest (Ok bounds) h = h (with_better minimize best (Some bound))
tightest_step spot (Ok bound) minimize best rest (Err kind) h = h (with_better minimize best (Some bound))

tightest_value : (m : Model) (s : PlainState) (i : ℕ) (best : Option ℤ) (es : List Num) → without_spot (tightest_at m s i best es) ≡ (values_of m s es >>= λ bounds. Ok (best_over (not m.minimize) best bounds))
tightest_value m s i best [] = refl
tightest_value m s i best (e ∷ es) =
    tightest_step (spots.Bound i) (num_value m s e []) (not m.minimize) best (λ other. tightest_at m s (i + 1) other es) (values_of m s es) (λ other. tightest_value m s (i + 1) other es)

values_behind : (minimize : Bool) (best bound : Option ℤ) (r : Result (List ℤ) FaultKind) → (r >>= λ bounds. Ok (best_over minimize best bounds)) ≡ Ok bound → (bounds : List ℤ) × (r ≡ Ok bounds) × (best_over minimize best bounds ≡ bound)
values_behind minimize best bound (Ok bounds) e = (bounds, refl, cc)
values_behind minimize best bound (Err kind) e = absurd (cc)

tightest_values : (m : Model) (s : PlainState) (bound : Option ℤ) → tightest_at m s 0 None m.bounds ≡ Ok bound → (bounds : List ℤ) × (values_of m s m.bounds ≡ Ok bounds) × (best_over (not m.minimize) None bounds ≡ bound)
tightest_values m s bound e = values_behind (not m.minimize) None bound (values_of m s m.bounds) (sym (tightest_value m s 0 None m.bounds) ∙ ap without_spot e)

values_tightest : (m : Model) (s : PlainState) (bounds : List ℤ) → values_of m s m.bounds ≡ Ok bounds → tightest_at m s 0 None m.bounds ≡ Ok (best_over (not m.minimize) None bounds)
values_tightest m s bounds e =
    from_value (tightest_at m s 0 None m.bounds) (best_over (not m.minimize) None bounds) (tightest_value m s 0 None m.bounds ∙ ap (λ (r : Result (List ℤ) FaultKind). r >>= λ bounds. Ok (best_over (not m.minimize) None bounds)) e)

-- ---- which models have floors

two_steps : (r : Result ℤ FaultKind) (q : Result (List ℤ) FaultKind) → (r >>= λ bound. q >>= λ bounds. Ok (bound ∷ bounds)) ≡ Ok [] → ⊥
two_steps (Ok bound) (Ok bounds) e = cc
two_steps (Ok bound) (Err kind) e = cc
two_steps (Err kind) q e = cc

no_values : (m : Model) (s : PlainState) (es : List Num) → values_of m s es ≡ Ok [] → not (length es == 0) ≡ false
no_values m s [] e = refl
no_values m s (b ∷ bs) e = absurd (two_steps (num_value m s b []) (values_of m s bs) e)

some_values : (m : Model) (s : PlainState) (first : ℤ) (others : List ℤ) (es : List Num) → values_of m s es ≡ Ok (first ∷ others) → not (length es == 0) ≡ true
some_values m s first others [] e = absurd (cc)
some_values m s first others (b ∷ bs) e = grind arith

-- without bounds there are no values
values_none : (m : Model) (s : PlainState) (es : List Num) → not (length es == 0) ≡ false → values_of m s es ≡ Ok []
values_none m s [] e = refl
values_none m s (b ∷ bs) e = absurd (grind arith)

-- ---- floors

floor_is : (m : Model) (s : PlainState) (cost floor : Option ℤ) (bounds : List ℤ) → values_of m s m.bounds ≡ Ok bounds → floor ≡ floor_of m cost (best_over (not m.minimize) None bounds) → IsFloor m true s cost floor
floor_is m s cost floor [] values e = subst (λ (f : Option ℤ). IsFloor m true s cost f) (sym e) (no_values m s m.bounds values)
floor_is m s cost floor (first ∷ others) values e =
    let bound : ℤ = fold (better_of (not m.minimize)) first others in
    let tightest : best_over (not m.minimize) None (first ∷ others) ≡ Some bound = over_number (not m.minimize) first others in
    let same : floor ≡ Some (join_onto m.join cost bound) = e ∙ ap (floor_of m cost) tightest ∙ join_some m.join cost bound in
    subst (λ (f : Option ℤ). IsFloor m true s cost f) (sym same) (some_values m s first others m.bounds values, (bound, (first, others, values, refl), refl))

floor_told : (m : Model) (s : PlainState) (cost floor : Option ℤ) (r : Result (Option ℤ) SpotFault) → tightest_at m s 0 None m.bounds ≡ r → (r >>= λ bound. Ok (floor_of m cost bound)) ≡ Ok floor → IsFloor m true s cost floor
floor_told m s cost floor (Ok bound) q e =
    let values = tightest_values m s bound q in
    let same : floor_of m cost bound ≡ floor = cc in
    floor_is m s cost floor values.0 values.1 (sym same ∙ ap (floor_of m cost) (sym values.2))
floor_told m s cost floor (Err met) q e = absurd (cc)

found_floor : (m : Model) (prune : Bool) (s : PlainState) (cost floor : Option ℤ) → floor_at m prune s cost ≡ Ok floor → IsFloor m prune s cost floor
found_floor m true s cost floor e = floor_told m s cost floor (tightest_at m s 0 None m.bounds) refl e
found_floor m false s cost None e = refl
found_floor m false s cost (Some floor) e = absurd (cc)

pub floor_found_at : (m : Model) (prune : Bool) (s : PlainState) (cost floor : Option ℤ) → IsFloor m prune s cost floor → floor_at m prune s cost ≡ Ok floor
floor_found_at m true s cost None h = rw (values_tightest m s [] (values_none m s m.bounds h)) refl
floor_found_at m true s cost (Some floor) h =
    let tightest = h.1.1 in
    let bound : best_over (not m.minimize) None (tightest.0 ∷ tightest.1) ≡ Some h.1.0 = over_number (not m.minimize) tightest.0 tightest.1 ∙ ap Some (sym tightest.3) in
    rw (values_tightest m s (tightest.0 ∷ tightest.1) tightest.2, bound) (ap Ok (join_some m.join cost h.1.0 ∙ ap Some (sym h.1.2)))
floor_found_at m false s cost None h = refl
floor_found_at m false s cost (Some floor) h = absurd (false≢true h.0)

pub floor_found : FloorFound
floor_found m prune s cost floor = (λ e. found_floor m prune s cost floor e, λ h. floor_found_at m prune s cost floor h)

-- ---- the first fault of the bounds

pub record FirstBound (m : Model) (s : PlainState) (from : ℕ) (es : List Num) (met : SpotFault) : Type 0 where
  pub place : ℕ
  pub bound : Num
  pub there : slice_get es place ≡ Some bound
  pub fault : num_value m s bound [] ≡ Err met.kind
  pub before : HasValue (values_of m s (take place es))
  pub spot : met.spot ≡ spots.Bound (from + place)

bound_step : (m : Model) (s : PlainState) (i : ℕ) (best : Option ℤ) (e : Num) (es : List Num) (met : SpotFault) (r : Result ℤ FaultKind) → num_value m s e [] ≡ r → ((other : Option ℤ) → tightest_at m s (i + 1) other es ≡ Err met → FirstBound m s (i + 1) es met) → (at_spot (spots.Bound i) r >>= λ bound. tightest_at m s (i + 1) (with_better (not m.minimize) best (Some bound)) es) ≡ Err met → FirstBound m s i (e ∷ es) met
bound_step m s i best e es met (Err kind) q rest h =
    let told = fault_there {A = ℤ} (spots.Bound i) (Err kind) met cc in
    let at : i + 0 ≡ i = omega arith in
    record { place = zero; bound = e; there = refl; fault = q ∙ told.0; before = ([], refl); spot = rw at told.1 }
bound_step m s i best e es met (Ok bound) q rest h =
    let f = rest (with_better (not m.minimize) best (Some bound)) h in
    let at : i + suc f.place ≡ (i + 1) + f.place = omega arith in
    let values : values_of m s (e ∷ take f.place es) ≡ Ok (bound ∷ f.before.0) = rw (q, f.before.1) refl in
    record { place = suc f.place; bound = f.bound; there = f.there; fault = f.fault; before = (bound ∷ f.before.0, values); spot = rw at f.spot }

first_bound : (m : Model) (s : PlainState) (i : ℕ) (best : Option ℤ) (es : List Num) (met : SpotFault) → tightest_at m s i best es ≡ Err met → FirstBound m s i es met
first_bound m s i best [] met h = absurd (cc)
first_bound m s i best (e ∷ es) met h = bound_step m s i best e es met (num_value m s e []) refl (λ other. first_bound m s (i + 1) other es met) h

floor_fault : (m : Model) (cost : Option ℤ) (met : SpotFault) (r : Result (Option ℤ) SpotFault) → (r >>= λ bound. Ok (floor_of m cost bound)) ≡ Err met → r ≡ Err met
floor_fault m cost met (Ok bound) e = absurd (cc)
floor_fault m cost met (Err other) e = cc

pub floor_faults : FloorFaults
floor_faults m true cost s met inner e =
    let f = first_bound m s 0 None m.bounds met (floor_fault m cost met (tightest_at m s 0 None m.bounds) e) in
    let at : met.spot ≡ spots.Bound f.place = f.spot ∙ ap (λ (i : ℕ). spots.Bound i) (zero-add f.place) in
    rw at ((inner, refl, f.before), (f.bound, f.there, f.fault))
floor_faults m false cost s met inner e = absurd (cc)

-- the bounds before one have values, and it meets a fault
bound_here : (m : Model) (s : PlainState) (es : List Num) (i k j : ℕ) (best : Option ℤ) (e : Num) (values : List ℤ) (kind : FaultKind) → i + k ≡ j → values_of m s (take k es) ≡ Ok values → slice_get es k ≡ Some e → num_value m s e [] ≡ Err kind → tightest_at m s i best es ≡ Err (record { spot = spots.Bound j; kind = kind })
bound_here m s [] i k j best e values kind at before there fault = absurd (cc)
bound_here m s (x ∷ xs) i zero j best e values kind at before there fault =
    let same : x ≡ e = cc in
    let place : i ≡ j = omega arith in
    rw (same, fault, place) refl
bound_here m s (x ∷ xs) i (suc k) j best e values kind at before there fault =
    let both = two_values (num_value m s x []) (values_of m s (take k xs)) (λ (b : ℤ) (bs : List ℤ). b ∷ bs) values before in
    rw both.2 (bound_here m s xs (i + 1) k j (with_better (not m.minimize) best (Some both.0)) e both.1 kind (omega arith) both.3 there fault)

pub bound_met : BoundMet
bound_met m prune cost s i kind meets =
    let reached = meets.0 in
    let fault = meets.1 in
    let bound = bound_here m s m.bounds 0 i i None fault.0 reached.2.0 kind (zero-add i) reached.2.1 fault.1 fault.2 in
    rw (reached.1, bound) refl

-- ---- what a state is found to be

-- where this is found, the state is so
abbrev pub Is : Model → Bool → PlainState → Option ℤ → Result Look SpotFault → Type 0
Is m prune s cost (Ok looks.NotAllowed) = Forbidden m s
Is m prune s cost (Ok (looks.Base base)) = Base m s base
Is m prune s cost (Ok (looks.Open floor)) = Inner m s × IsFloor m prune s cost floor
Is m prune s cost (Err met) = MeetsIn m prune cost s met.spot met.kind

is_open : (m : Model) (prune : Bool) (s : PlainState) (cost : Option ℤ) (r : Result (Option ℤ) SpotFault) → floor_at m prune s cost ≡ r → Inner m s → Is m prune s cost (r >>= λ floor. Ok (looks.Open floor))
is_open m prune s cost (Ok floor) q inner = (inner, found_floor m prune s cost floor q)
is_open m prune s cost (Err met) q inner = floor_faults m prune cost s met inner q

is_cases : (m : Model) (prune : Bool) (s : PlainState) (cost : Option ℤ) (r : Result (Option ℤ) SpotFault) → best_case m s 0 None m.base_cases ≡ r → Allowed m s → Is m prune s cost (r >>= open_or_base m prune s cost)
is_cases m prune s cost (Ok (Some base)) q allowed = is_base m s base allowed q
is_cases m prune s cost (Ok None) q allowed = is_open m prune s cost (floor_at m prune s cost) refl (is_inner m s allowed q)
is_cases m prune s cost (Err met) q allowed = best_met m prune cost s met allowed q

is_told : (m : Model) (prune : Bool) (s : PlainState) (cost : Option ℤ) (r : Result Bool SpotFault) → allowed_at m s ≡ r → Is m prune s cost (r >>= λ allowed. if allowed then (best_case m s 0 None m.base_cases >>= open_or_base m prune s cost) else Ok looks.NotAllowed)
is_told m prune s cost (Ok true) q = is_cases m prune s cost (best_case m s 0 None m.base_cases) refl ((allowed_found m s).0 q)
is_told m prune s cost (Ok false) q = (forbidden_found m s).0 q
is_told m prune s cost (Err met) q = constraint_faults m prune cost s met q

pub looked_is : (m : Model) (prune : Bool) (s : PlainState) (cost : Option ℤ) → Is m prune s cost (looked_at m prune s cost)
looked_is m prune s cost = is_told m prune s cost (allowed_at m s) refl

at_look : (m : Model) (prune : Bool) (s : PlainState) (cost : Option ℤ) (look : Result Look SpotFault) → looked_at m prune s cost ≡ look → Is m prune s cost look
at_look m prune s cost look e = subst (λ (r : Result Look SpotFault). Is m prune s cost r) e (looked_is m prune s cost)

pub looked_forbidden : LookedForbidden
looked_forbidden m prune s cost = (λ e. at_look m prune s cost (Ok looks.NotAllowed) e, λ forbidden. rw ((forbidden_found m s).1 forbidden) refl)

pub looked_base : LookedBase
looked_base m prune s cost base = (λ e. at_look m prune s cost (Ok (looks.Base base)) e, λ b. rw ((allowed_found m s).1 b.allowed, base_best m s base b) refl)

pub looked_open : LookedOpen
looked_open m prune s cost floor = (
  λ e. at_look m prune s cost (Ok (looks.Open floor)) e,
  λ h. rw ((allowed_found m s).1 h.0.allowed, inner_best m s h.0, floor_found_at m prune s cost floor h.1) refl,
)

-- a fault of the base cases is found on the way, where the state is allowed
past_base : (m : Model) (prune : Bool) (s : PlainState) (cost : Option ℤ) (met : SpotFault) → Allowed m s → base_at m s ≡ Err met → looked_at m prune s cost ≡ Err met
past_base m prune s cost met allowed e =
    let found = (allowed_found m s).1 allowed in
    let best : best_case m s 0 None m.base_cases ≡ Err met = rw found at e in
    rw (found, best) refl

-- a fault of a look that is met in the state is the one that is found
pub look_met : (m : Model) (prune : Bool) (cost : Option ℤ) (s : PlainState) (spot : Spot) (kind : FaultKind) → is_looked spot ≡ true → MeetsIn m prune cost s spot kind → looked_at m prune s cost ≡ Err (record { spot = spot; kind = kind })
look_met m prune cost s (spots.Constraint i) kind is meets = rw (constraint_met m prune cost s i kind meets) refl
look_met m prune cost s (spots.BaseCondition i j) kind is meets =
    past_base m prune s cost (record { spot = spots.BaseCondition i j; kind = kind }) meets.0.0.0 (condition_met m prune cost s i j kind meets)
look_met m prune cost s (spots.BaseCost i) kind is meets =
    past_base m prune s cost (record { spot = spots.BaseCost i; kind = kind }) meets.0.0.0 (base_cost_met m prune cost s i kind meets)
look_met m prune cost s (spots.Bound i) kind is meets =
    rw ((allowed_found m s).1 meets.0.0.allowed, inner_best m s meets.0.0, bound_met m prune cost s i kind meets) refl
look_met m prune cost s spots.Total kind is meets = absurd (false≢true is)
look_met m prune cost s (spots.Precondition g j) kind is meets = absurd (false≢true is)
look_met m prune cost s (spots.Weight g) kind is meets = absurd (false≢true is)
look_met m prune cost s (spots.Cost g) kind is meets = absurd (false≢true is)
look_met m prune cost s (spots.Effect g i) kind is meets = absurd (false≢true is)

-- ---- the spots of faults

looked_at_spot : (spot spot' : Spot) → spot ≡ spot' → is_looked spot' ≡ true → is_looked spot ≡ true
looked_at_spot spot spot' same is = rw same is

constraint_spot : (m : Model) (s : PlainState) (met : SpotFault) → allowed_at m s ≡ Err met → is_looked met.spot ≡ true
constraint_spot m s met e = looked_at_spot met.spot _ (first_fault m s Constraints [] m.constraints 0 met e).spot refl

case_spot : (m : Model) (s : PlainState) (i : ℕ) (b : BaseCase) (met : SpotFault) (q : Result Bool SpotFault) (n : Result ℤ FaultKind) → all_at m s (BaseConditions i) [] 0 b.conditions ≡ q → (q >>= λ held. if held then (at_spot (spots.BaseCost i) n >>= λ c. Ok (Some c)) else Ok None) ≡ Err met → is_looked met.spot ≡ true
case_spot m s i b met (Err other) n q e = looked_at_spot met.spot _ (first_fault m s (BaseConditions i) [] b.conditions 0 met (q ∙ cc)).spot refl
case_spot m s i b met (Ok false) n q e = absurd (cc)
case_spot m s i b met (Ok true) (Ok c) q e = absurd (cc)
case_spot m s i b met (Ok true) (Err kind) q e = looked_at_spot met.spot (spots.BaseCost i) (fault_there {A = ℤ} (spots.BaseCost i) (Err kind) met cc).1 refl

best_spot : (m : Model) (s : PlainState) (met : SpotFault) → best_case m s 0 None m.base_cases ≡ Err met → is_looked met.spot ≡ true
best_spot m s met e =
    let f = first_case m s 0 None m.base_cases met e in
    case_spot m s (0 + f.place) f.«case» met (all_at m s (BaseConditions (0 + f.place)) [] 0 f.«case».conditions) (num_value m s f.«case».cost []) refl f.fault

floor_spot : (m : Model) (prune : Bool) (s : PlainState) (cost : Option ℤ) (met : SpotFault) → floor_at m prune s cost ≡ Err met → is_looked met.spot ≡ true
floor_spot m true s cost met e = looked_at_spot met.spot _ (first_bound m s 0 None m.bounds met (floor_fault m cost met (tightest_at m s 0 None m.bounds) e)).spot refl
floor_spot m false s cost met e = absurd (cc)

open_spot : (m : Model) (prune : Bool) (s : PlainState) (cost : Option ℤ) (met : SpotFault) (r : Result (Option ℤ) SpotFault) → floor_at m prune s cost ≡ r → (r >>= λ floor. Ok (looks.Open floor)) ≡ Err met → is_looked met.spot ≡ true
open_spot m prune s cost met (Ok floor) q e = absurd (cc)
open_spot m prune s cost met (Err other) q e = floor_spot m prune s cost met (q ∙ cc)

cases_spot : (m : Model) (prune : Bool) (s : PlainState) (cost : Option ℤ) (met : SpotFault) (r : Result (Option ℤ) SpotFault) → best_case m s 0 None m.base_cases ≡ r → (r >>= open_or_base m prune s cost) ≡ Err met → is_looked met.spot ≡ true
cases_spot m prune s cost met (Ok (Some base)) q e = absurd (cc)
cases_spot m prune s cost met (Ok None) q e = open_spot m prune s cost met (floor_at m prune s cost) refl e
cases_spot m prune s cost met (Err other) q e = best_spot m s met (q ∙ cc)

look_spot_step : (m : Model) (prune : Bool) (s : PlainState) (cost : Option ℤ) (met : SpotFault) (r : Result Bool SpotFault) → allowed_at m s ≡ r → (r >>= λ allowed. if allowed then (best_case m s 0 None m.base_cases >>= open_or_base m prune s cost) else Ok looks.NotAllowed) ≡ Err met → is_looked met.spot ≡ true
look_spot_step m prune s cost met (Ok true) q e = cases_spot m prune s cost met (best_case m s 0 None m.base_cases) refl e
look_spot_step m prune s cost met (Ok false) q e = absurd (cc)
look_spot_step m prune s cost met (Err other) q e = constraint_spot m s met (q ∙ cc)

-- a fault that is found of a look is one of its spots
pub look_spot : (m : Model) (prune : Bool) (s : PlainState) (cost : Option ℤ) (met : SpotFault) → looked_at m prune s cost ≡ Err met → is_looked met.spot ≡ true
look_spot m prune s cost met e = look_spot_step m prune s cost met (allowed_at m s) refl e

pub look_faults : LookFaults
look_faults m prune cost s met =
    (λ e. (look_spot m prune s cost met e, at_look m prune s cost (Err met) e), λ h. look_met m prune cost s met.spot met.kind h.0 h.1)
