use Rattle.std.proofs.Common.{◌≡◌}
use Rattle.cases_search.proofs.bench.Bench.add_along.Given as goal

abbrev pub invariant-loop-index : goal.invariant-loop-index
invariant-loop-index g l = l.self ≡ l.initial.self
