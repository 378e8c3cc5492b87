use Rattle.std.proofs.Common.{◌≡◌, sym, subst}
use Rattle.dp_model.specs.declared.whole.Model.{Model}
use Rattle.state_layout.specs.Conditions.{IsPackedFor}
use Rattle.state_layout.specs.declared.node.Node.{Node}
use Rattle.cases_search.specs.Fits.{FitsIn}
use Rattle.cases_search.proofs.Fitting.{fitting_packed}
use Rattle.cases_search.proofs.bench.Bench.is_copied.Goals as goal

pub same-requires-clause-left : goal.same-requires-clause-left
same-requires-clause-left g c =
    let same : c.args.self.now ≡ c.self.inside.model.now = cc in
    fitting_packed c.self.inside.model.now c.self.inside.layout c.args.node.now c.self.invariant.1 (subst (λ (m : Model). FitsIn m c.args.node.now) same c.requires)

pub same-requires-clause-right : goal.same-requires-clause-right
same-requires-clause-right g c =
    let same : c.args.self.now ≡ c.self.inside.model.now = cc in
    subst (λ (n : Node). IsPackedFor c.self.inside.layout n.state) (sym c.in_ok-copy.ensures) (fitting_packed c.self.inside.model.now c.self.inside.layout c.args.node.now c.self.invariant.1 (subst (λ (m : Model). FitsIn m c.args.node.now) same c.requires))
