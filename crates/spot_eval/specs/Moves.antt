-- What transitions do in an inner state, in the order in which they are evaluated, up to the first fault.
use Rattle.std.specs.Prelude.{ℕ, ◌+◌, Bool, true, false, not, ◌||◌, nat_lt, if◌then◌else◌, List, [], ◌∷◌, length, filter, Option, Some, None, Result, Ok, ℤ}
use Rattle.std.specs.List.{range_with_len}
use Rattle.dp_base.specs.Results.{◌>>=◌}
use Rattle.dp_model.specs.Costs.{join_onto, ranged}
use Rattle.dp_model.specs.Evaluation.{has, set_in}
use Rattle.dp_model.specs.StepTexts.{ground_of}
use Rattle.dp_model.specs.declared.trees.Over.{Over}
use Rattle.dp_model.specs.declared.trees.Over.TheVariants.{Object, Members}
use Rattle.dp_model.specs.declared.answers.Spot.TheVariants as spots
use Rattle.dp_model.specs.declared.parts.Effect.{Effect}
use Rattle.dp_model.specs.declared.parts.Transition.{Transition}
use Rattle.dp_model.specs.declared.parts.PlainState.{PlainState}
use Rattle.dp_model.specs.declared.parts.PlainValue.{PlainValue}
use Rattle.dp_model.specs.declared.whole.Model.{Model}
use Rattle.dp_steps.specs.States.{are_members, effect_value, weight_of, with_changes}
use Rattle.spot_eval.specs.Answers.{at_spot}
use Rattle.spot_eval.specs.declared.ends.SpotFault.{SpotFault}
use Rattle.spot_eval.specs.Looks.{all_at}
use Rattle.spot_eval.specs.declared.tests.Tests.TheVariants.{Preconditions}

-- whether the value of a parameter is a member of the set variable that it ranges over, if it ranges over one
abbrev pub is_member : PlainState → Over → ℕ → Bool
is_member s (Object object) k = true
is_member s (Members v) k = has (set_in s v) k

-- whether a ground transition with this number is enabled: its memberships are tested before its preconditions
abbrev pub enabled_at : Model → PlainState → ℕ → Transition × List ℕ → Result Bool SpotFault
enabled_at m s g t = if are_members s t.0.params t.1 then all_at m s (Preconditions g) t.1 0 t.0.preconditions else Ok false

-- the same of what a number names
abbrev pub named_enabled : Model → PlainState → ℕ → Option (Transition × List ℕ) → Result Bool SpotFault
named_enabled m s g None = Ok false
named_enabled m s g (Some t) = enabled_at m s g t

abbrev pub number_enabled : Model → PlainState → ℕ → Result Bool SpotFault
number_enabled m s g = named_enabled m s g (ground_of m g)

-- the first of these ground transitions that is enabled
abbrev pub first_enabled : Model → PlainState → List ℕ → Result (Option ℕ) SpotFault
first_enabled m s [] = Ok None
first_enabled m s (g ∷ gs) = number_enabled m s g >>= λ enabled. if enabled then Ok (Some g) else first_enabled m s gs

abbrev pub named_forced : Option (Transition × List ℕ) → Bool
named_forced None = false
named_forced (Some t) = t.0.forced

abbrev pub is_forced : Model → ℕ → Bool
is_forced m g = named_forced (ground_of m g)

-- the numbers of the forced ground transitions, and of the others, in order of definition
abbrev pub forced_of : Model → List ℕ
forced_of m = filter (is_forced m) (range_with_len 0 (length m.dp_ground))

abbrev pub others_of : Model → List ℕ
others_of m = filter (λ g. not (is_forced m g)) (range_with_len 0 (length m.dp_ground))

-- A forced transition is tested before another: before each that is not forced, and before each forced one with a
-- greater number.
abbrev pub goes_before : Model → ℕ → ℕ → Bool
goes_before m g f = nat_lt f g || not (is_forced m g)

-- whether the transition is considered and enabled: no forced one that is tested before it is enabled
abbrev pub may_step_at : Model → PlainState → ℕ → Result Bool SpotFault
may_step_at m s g = first_enabled m s (filter (goes_before m g) (forced_of m)) >>= λ first. alone first
  where
    alone : Option ℕ → Result Bool SpotFault
    alone None = number_enabled m s g
    alone (Some f) = Ok false

-- the values of effects from a place on, in order
abbrev pub effects_at : Model → PlainState → (g : ℕ) → (given : List ℕ) → ℕ → List Effect → Result (List (ℕ × PlainValue)) SpotFault
effects_at m s g given i [] = Ok []
effects_at m s g given i (e ∷ es) = at_spot (spots.Effect g i) (effect_value m s given e) >>= λ change. effects_at m s g given (i + 1) es >>= λ changes. Ok (change ∷ changes)

-- the state that a transition leads to
abbrev pub next_at : Model → PlainState → ℕ → Transition × List ℕ → Result PlainState SpotFault
next_at m s g t = effects_at m s g t.1 0 t.0.effects >>= λ changes. Ok (record { values = with_changes s.values changes })

-- the cost so far joined with a weight, tested for its range
abbrev pub joined_at : Model → (cost : Option ℤ) → ℕ → (weight : Option ℤ) → Result (Option ℤ) SpotFault
joined_at m cost g None = Ok cost
joined_at m cost g (Some w) = at_spot (spots.Cost g) (ranged (join_onto m.join cost w)) >>= λ c. Ok (Some c)

-- the cost so far of a successor
abbrev pub cost_at : Model → PlainState → (cost : Option ℤ) → ℕ → Transition × List ℕ → Result (Option ℤ) SpotFault
cost_at m s cost g t = at_spot (spots.Weight g) (weight_of m s t) >>= joined_at m cost g
