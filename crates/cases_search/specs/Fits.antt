-- When a node can be shown.
use Rattle.std.specs.Prelude.{List}
use Rattle.dp_claims.specs.Enough.{Has}
use Rattle.dp_model.specs.declared.whole.Model.{Model}
use Rattle.state_layout.specs.Conditions.{IsNodeFor}
use Rattle.state_layout.specs.Slots.{slots_of}
use Rattle.state_layout.specs.declared.node.Node.{Node}

-- the node is one of a model with the layout of this one
abbrev pub FitsIn : Model → Node → Type 0
FitsIn m n = IsNodeFor (slots_of m.objects m.variables) n

abbrev pub AllFit : Model → List Node → Type 0
AllFit m nodes = (n : Node) → Has nodes n → FitsIn m n
