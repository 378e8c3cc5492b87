-- The target's node, and the shard that owns it.
use Rattle.std.specs.Prelude.{◌≡◌, Ok}
use Rattle.dp_model.specs.declared.answers.Options.{Options}
use Rattle.dp_model.specs.declared.whole.Model.{Model}
use Rattle.state_layout.specs.Conditions.{IsNodeOf}
use Rattle.state_layout.specs.Signatures.{owner_of}
use Rattle.state_layout.specs.Slots.{slots_of}
use Rattle.successors.specs.Starts.{start_at}
use Rattle.successors.specs.declared.starts.Start.TheVariants as starts
use Rattle.solve_start.specs.declared.starts.Target.{Target}

-- what the target is found to be, an inner state with this node, whose state this shard owns
pub record IsTarget (m : Model) (options : Options) (t : Target) : Type 0 where
  pub start : start_at m options.prune ≡ Ok (starts.Open t.node)
  pub is_node : IsNodeOf m t.node
  pub owner : t.owner ≡ owner_of (slots_of m.objects m.variables) t.node.state options.workers
