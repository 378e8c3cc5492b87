use Rattle.std.specs.Prelude.{List}
use Rattle.std.proofs.Common.{subst}
use Rattle.dp_claims.specs.Enough.{Has}
use Rattle.state_layout.specs.declared.node.Node.{Node}
use Rattle.best_shard.proofs.shard.BestShard.take_batch.Goals as goal

pub send_all-requires-clause-nodes : goal.send_all-requires-clause-nodes
send_all-requires-clause-nodes g c n h = c.requires.nodes n (subst (λ (ns : List Node). Has ns n) c.replace-nodes.ensures.value h)
