-- What a search begins with: what the target turns out to be.
use Rattle.std.specs.Prelude.{Bool, None, Result, Ok}
use Rattle.dp_base.specs.Results.{◌>>=◌}
use Rattle.dp_model.specs.Costs.{InRange}
use Rattle.dp_model.specs.declared.parts.PlainState.{PlainState}
use Rattle.dp_model.specs.declared.whole.Model.{Model}
use Rattle.state_layout.specs.Conditions.{IsNodeOf}
use Rattle.spot_eval.specs.Looks.{looked_at}
use Rattle.spot_eval.specs.declared.looks.Look.{Look}
use Rattle.spot_eval.specs.declared.looks.Look.TheVariants as looks
use Rattle.successors.specs.Answers.{Met, here}
use Rattle.successors.specs.declared.starts.Start.{Start}
use Rattle.successors.specs.declared.starts.Start.TheVariants as starts

-- The node of the target has no parent and no cost so far, and its transition says nothing.
abbrev pub started : PlainState → Look → Start
started target looks.NotAllowed = starts.NotAllowed
started target (looks.Base base) = starts.Base base
started target (looks.Open floor) = starts.Open (record { state = target; cost = None; floor = floor; parent = None; transition = 0 })

abbrev pub start_at : Model → (prune : Bool) → Result Start Met
start_at m prune = here (looked_at m prune m.target None) >>= λ look. Ok (started m.target look)

-- a base cost is in range, and a node is in order
abbrev pub StartFits : Model → Start → Type 0
StartFits m starts.NotAllowed = Unit {0}
StartFits m (starts.Base base) = InRange base
StartFits m (starts.Open node) = IsNodeOf m node
