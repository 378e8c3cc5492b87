use Rattle.std.proofs.Common.{◌≡◌, ◌++◌, map, take}
use Rattle.dom_store.specs.Past.{past_node}
use Rattle.shard_core.proofs.past.add_all.Given as goal

-- the nodes so far are added
abbrev pub invariant-loop-node : goal.invariant-loop-node
invariant-loop-node g l = record {
  layout : l.past.layout ≡ l.initial.past.layout;
  nodes : l.past.nodes ≡ l.initial.past.nodes ++ map past_node (take l.node-index l.nodes);
}
