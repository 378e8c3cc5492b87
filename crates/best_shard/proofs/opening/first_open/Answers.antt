use Rattle.std.proofs.Common.{sym, subst, rules}
use Rattle.state_layout.specs.Conditions.{IsNodeFor}
use Rattle.state_layout.specs.declared.node.Node.{Node}
use Rattle.best_shard.proofs.opening.first_open.Goals as goal

pub add-requires-clause-layout : goal.add-requires-clause-layout
add-requires-clause-layout g c = sym c.in_ok-waiting.ensures.layout

pub add-requires-clause-node : goal.add-requires-clause-node
add-requires-clause-node g c =
    let fits : IsNodeFor c.args.layout.now c.in-Some.node = search rules in
    subst (λ (n : Node). IsNodeFor c.args.layout.now n) (sym c.in_ok-boxed.ensures) fits
