use Rattle.cases_search.proofs.Fitting.{target_for}
use Rattle.cases_search.proofs.bench.Bench.new.Goals as goal

pub pack-requires : goal.pack-requires
pack-requires g c = target_for c.args.model.now c.in_ok-layout.layout c.target.result.now c.in_ok-layout.ensures c.target.ensures
