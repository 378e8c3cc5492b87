use Rattle.record_guards.proofs.Settled.{settled, worked_models}
use Rattle.record_guards.proofs.law_worked_settled.Goals as goal

pub returns : goal.returns
returns c = record { settled = settled; models = worked_models }
