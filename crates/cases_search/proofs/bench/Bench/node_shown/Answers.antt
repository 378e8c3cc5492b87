use Rattle.std.proofs.Common.{◌≡◌, subst}
use Rattle.dp_model.specs.declared.whole.Model.{Model}
use Rattle.cases_search.specs.Fits.{FitsIn}
use Rattle.cases_search.proofs.Fitting.{fitting_packed}
use Rattle.cases_search.proofs.bench.Bench.node_shown.Goals as goal

pub unpack-requires : goal.unpack-requires
unpack-requires g c =
    let same : c.args.self.now ≡ c.self.inside.model.now = cc in
    fitting_packed c.self.inside.model.now c.self.inside.layout c.args.node.now c.self.invariant.1 (subst (λ (m : Model). FitsIn m c.args.node.now) same c.requires)
