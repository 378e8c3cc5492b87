-- What a state turns out to be when it is looked at: its constraints, its base cases, and, with pruning on, its dual
-- bounds are evaluated in this order, up to the first fault.
use Rattle.std.specs.Prelude.{ℕ, ◌+◌, Bool, true, false, not, if◌then◌else◌, List, [], ◌∷◌, Option, Some, None, Result, Ok, ℤ}
use Rattle.dp_base.specs.Results.{◌>>=◌}
use Rattle.dp_model.specs.Costs.{better_of, join}
use Rattle.dp_model.specs.Evaluation.{num_value, cond_value}
use Rattle.dp_model.specs.declared.answers.Spot.{Spot}
use Rattle.dp_model.specs.declared.answers.Spot.TheVariants as spots
use Rattle.dp_model.specs.declared.trees.Cond.{Cond}
use Rattle.dp_model.specs.declared.trees.Num.{Num}
use Rattle.dp_model.specs.declared.parts.BaseCase.{BaseCase}
use Rattle.dp_model.specs.declared.parts.PlainState.{PlainState}
use Rattle.dp_model.specs.declared.whole.Model.{Model}
use Rattle.spot_eval.specs.Answers.{at_spot}
use Rattle.spot_eval.specs.declared.ends.SpotFault.{SpotFault}
use Rattle.spot_eval.specs.declared.tests.Tests.{Tests}
use Rattle.spot_eval.specs.declared.tests.Tests.TheVariants.{Constraints, BaseConditions, Preconditions}
use Rattle.spot_eval.specs.declared.looks.Look.{Look}
use Rattle.spot_eval.specs.declared.looks.Look.TheVariants as looks

-- the spot of the test at this place
abbrev pub spot_of : Tests → ℕ → Spot
spot_of Constraints i = spots.Constraint i
spot_of (BaseConditions case) i = spots.BaseCondition case i
spot_of (Preconditions g) i = spots.Precondition g i

-- tests from a place on, in order up to the first that is not true
abbrev pub all_at : Model → PlainState → Tests → (given : List ℕ) → ℕ → List Cond → Result Bool SpotFault
all_at m s tests given i [] = Ok true
all_at m s tests given i (c ∷ cs) = at_spot (spot_of tests i) (cond_value m s c given) >>= λ held. if held then all_at m s tests given (i + 1) cs else Ok false

-- whether the state is allowed
abbrev pub allowed_at : Model → PlainState → Result Bool SpotFault
allowed_at m s = all_at m s Constraints [] 0 m.constraints

-- the cost of a base case, where all its conditions are true
abbrev pub case_at : Model → PlainState → ℕ → BaseCase → Result (Option ℤ) SpotFault
case_at m s i b = all_at m s (BaseConditions i) [] 0 b.conditions >>= λ held. if held then (at_spot (spots.BaseCost i) (num_value m s b.cost []) >>= λ c. Ok (Some c)) else Ok None

-- the better of two numbers, of which each may be missing
abbrev pub with_better : (minimize : Bool) → Option ℤ → Option ℤ → Option ℤ
with_better minimize None c = c
with_better minimize (Some b) None = Some b
with_better minimize (Some b) (Some c) = Some (better_of minimize b c)

-- the best of a number and the costs of the satisfied base cases from a place on, all of which are evaluated
abbrev pub best_case : Model → PlainState → ℕ → Option ℤ → List BaseCase → Result (Option ℤ) SpotFault
best_case m s i best [] = Ok best
best_case m s i best (b ∷ bs) = case_at m s i b >>= λ c. best_case m s (i + 1) (with_better m.minimize best c) bs

abbrev pub if_allowed : {A : Type 0} → Model → PlainState → A → Result A SpotFault → Result A SpotFault
if_allowed m s otherwise value = allowed_at m s >>= λ allowed. if allowed then value else Ok otherwise

-- the base cost of a state that is allowed and base
abbrev pub base_at : Model → PlainState → Result (Option ℤ) SpotFault
base_at m s = if_allowed m s None (best_case m s 0 None m.base_cases)

-- the tightest of a number and the dual bounds from a place on
abbrev pub tightest_at : Model → PlainState → ℕ → Option ℤ → List Num → Result (Option ℤ) SpotFault
tightest_at m s i best [] = Ok best
tightest_at m s i best (e ∷ es) = at_spot (spots.Bound i) (num_value m s e []) >>= λ bound. tightest_at m s (i + 1) (with_better (not m.minimize) best (Some bound)) es

-- a cost so far joined with a bound, if there is one
abbrev pub floor_of : Model → (cost : Option ℤ) → (bound : Option ℤ) → Option ℤ
floor_of m cost None = None
floor_of m cost (Some bound) = join m.join cost (Some bound)

-- the floor of an inner state: dual bounds are evaluated with pruning on alone
abbrev pub floor_at : Model → (prune : Bool) → PlainState → (cost : Option ℤ) → Result (Option ℤ) SpotFault
floor_at m prune s cost = if prune then (tightest_at m s 0 None m.bounds >>= λ bound. Ok (floor_of m cost bound)) else Ok None

-- an allowed state, whose base cost is this where it is base
abbrev pub open_or_base : Model → (prune : Bool) → PlainState → (cost : Option ℤ) → (base : Option ℤ) → Result Look SpotFault
open_or_base m prune s cost (Some base) = Ok (looks.Base base)
open_or_base m prune s cost None = floor_at m prune s cost >>= λ floor. Ok (looks.Open floor)

-- what the state turns out to be, with the cost so far of the path that leads to it
abbrev pub looked_at : Model → (prune : Bool) → PlainState → (cost : Option ℤ) → Result Look SpotFault
looked_at m prune s cost = if_allowed m s looks.NotAllowed (best_case m s 0 None m.base_cases >>= open_or_base m prune s cost)
