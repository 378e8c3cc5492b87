use Rattle.best_gap.proofs.Bounds.{frontier_law, bound_law}
use Rattle.best_gap.proofs.law_best_gap.Goals as goal

pub returns : goal.returns
returns c = record { frontier = frontier_law; bound = bound_law }
