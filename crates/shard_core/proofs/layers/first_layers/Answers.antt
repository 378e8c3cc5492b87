use Rattle.std.proofs.Common.{sym, subst, rules}
use Rattle.state_layout.specs.Conditions.{IsNodeFor}
use Rattle.state_layout.specs.declared.node.Node.{Node}
use Rattle.shard_core.proofs.layers.first_layers.Goals as goal

pub collect-requires-clause-node : goal.collect-requires-clause-node
collect-requires-clause-node g c =
    let fits : IsNodeFor c.args.layout.now c.in-Some.node = search rules in
    subst (λ (n : Node). IsNodeFor c.args.layout.now n) (sym c.in_ok-boxed.ensures) fits
