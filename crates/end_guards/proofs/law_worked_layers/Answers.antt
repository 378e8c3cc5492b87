use Rattle.end_guards.proofs.Layers.{worked_splits, worked_busy}
use Rattle.end_guards.proofs.law_worked_layers.Goals as goal

pub returns : goal.returns
returns c = record { splits = worked_splits; busy = worked_busy }
