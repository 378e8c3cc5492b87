use Rattle.std.proofs.Common.{subst}
use Rattle.dp_model.specs.declared.whole.Model.{Model}
use Rattle.successors.specs.Batches.{BatchFits}
use Rattle.cases_search.proofs.Fitting.{batch_fits}
use Rattle.cases_search.proofs.bench.Bench.expand.Goals as goal

pub returns-clause-batch : goal.returns-clause-batch
returns-clause-batch g c =
    let fits : BatchFits c.self.inside.model.now c.expand.new.batch = subst (λ (m : Model). BatchFits m c.expand.new.batch) c.self.invariant.0 c.expand.ensures.fits in
    (batch_fits c.self.inside.model.now c.expand.new.batch.letters fits.letters, batch_fits c.self.inside.model.now c.expand.new.batch.pruned fits.pruned)
