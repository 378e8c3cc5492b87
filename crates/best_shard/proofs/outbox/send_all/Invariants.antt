use Rattle.std.proofs.Common.{◌≡◌, ◌++◌, length, map}
use Rattle.dp_claims.specs.Enough.{Has}
use Rattle.state_layout.specs.Conditions.{IsNodeFor}
use Rattle.state_layout.specs.declared.node.Node.{Node}
use Rattle.best_shard.specs.Outgoing.{addressed}
use Rattle.best_shard.proofs.outbox.send_all.Given as goal

-- what is left follows
abbrev pub invariant-loop-node : goal.invariant-loop-node
invariant-loop-node l = record {
  nodes : (n : Node) → Has l.left.items n → IsNodeFor l.layout n;
  sends : l.letters.items ++ map (addressed l.layout l.shards l.from l.stamp) l.left.items ≡ l.initial.letters.items ++ map (addressed l.layout l.shards l.from l.stamp) l.fn.nodes;
}

abbrev pub decreases-loop-node : goal.decreases-loop-node
decreases-loop-node l = length l.left.items
