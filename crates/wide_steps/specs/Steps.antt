-- What transitions do in wide values: each test and each number has one, so nothing faults.
use Rattle.std.specs.Prelude.{ℕ, Bool, ◌&&◌, List, map, Option, option_map, ℤ}
use Rattle.std.specs.List.{list_all}
use Rattle.dp_model.specs.declared.trees.Cond.{Cond}
use Rattle.dp_model.specs.declared.trees.Num.{Num}
use Rattle.dp_model.specs.declared.parts.Effect.{Effect}
use Rattle.dp_model.specs.declared.parts.Effect.TheVariants as effects
use Rattle.dp_model.specs.declared.parts.Transition.{Transition}
use Rattle.dp_model.specs.declared.parts.PlainValue.{PlainValue}
use Rattle.dp_model.specs.declared.parts.PlainValue.TheVariants as values
use Rattle.dp_model.specs.declared.parts.PlainState.{PlainState}
use Rattle.dp_model.specs.declared.whole.Model.{Model}
use Rattle.dp_steps.specs.States.{are_members, with_changes}
use Rattle.wide_values.specs.Wide.{wide_num, wide_cond, wide_set}

-- whether conditions all hold, with these values of the parameters
abbrev pub all_hold : Model → PlainState → List ℕ → List Cond → Bool
all_hold m s given conditions = list_all (λ (c : Cond). wide_cond m s c given) conditions

-- whether the memberships of a transition and its preconditions all hold
abbrev pub may_go : Model → PlainState → Transition × List ℕ → Bool
may_go m s t = are_members s t.0.params t.1 && all_hold m s t.1 t.0.preconditions

-- the variable that an effect sets, and its new value
abbrev pub wide_effect : Model → PlainState → List ℕ → Effect → ℕ × PlainValue
wide_effect m s given (effects.Number v e) = (v, values.Number (wide_num m s e given))
wide_effect m s given (effects.Members v e) = (v, values.Members (wide_set m s e given))

-- the values of the variables where a transition leads
abbrev pub wide_next : Model → PlainState → Transition × List ℕ → List PlainValue
wide_next m s t = with_changes s.values (map (wide_effect m s t.1) t.0.effects)

-- what a transition weighs, if it has a weight
abbrev pub wide_weight : Model → PlainState → Transition × List ℕ → Option ℤ
wide_weight m s t = option_map (λ (e : Num). wide_num m s e t.1) t.0.weight
