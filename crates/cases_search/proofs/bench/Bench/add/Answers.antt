use Rattle.std.proofs.Common.{◌≡◌, sym, subst}
use Rattle.dp_model.specs.declared.whole.Model.{Model}
use Rattle.state_layout.specs.Conditions.{IsNodeOf, IsNodeFor}
use Rattle.state_layout.specs.declared.node.Node.{Node}
use Rattle.cases_search.proofs.Fitting.{node_for}
use Rattle.cases_search.proofs.bench.Bench.add.Goals as goal

pub add-requires-clause-node : goal.add-requires-clause-node
add-requires-clause-node g c =
    let same : c.args.self.now ≡ c.self.inside.model.now = cc in
    subst (λ (n : Node). IsNodeFor c.self.inside.layout n) (sym c.in_ok-node.ensures)
    (node_for c.self.inside.model.now c.self.inside.layout c.in_ok-made.made c.self.invariant.1 (subst (λ (m : Model). IsNodeOf m c.in_ok-made.made) same c.in_ok-made.ensures))
