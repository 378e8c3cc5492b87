-- Which values are in range in a state of the model.
use Rattle.std.specs.Prelude.{IsTrue, IfSome}
use Rattle.dp_model.specs.Costs.{InRange}
use Rattle.dp_model.specs.Typing.{is_state}
use Rattle.dp_model.specs.declared.parts.PlainState.{PlainState}
use Rattle.dp_model.specs.declared.whole.Model.{Model}
use Rattle.cost_laws.specs.Orders.{InWideRange}
use Rattle.spot_eval.specs.declared.looks.Look.{Look}
use Rattle.spot_eval.specs.declared.looks.Look.TheVariants as looks

-- the state is one of the model
abbrev pub IsStateIn : Model → PlainState → Type 0
IsStateIn m s = IsTrue (is_state m.objects m.variables s)

-- a base cost is in range, and a floor has an order word
abbrev pub LookFits : Look → Type 0
LookFits looks.NotAllowed = Unit {0}
LookFits (looks.Base base) = InRange base
LookFits (looks.Open floor) = IfSome floor InWideRange
