use Rattle.pass_ledger.proofs.WorkedFloors.{honest, dropping_law}
use Rattle.pass_ledger.proofs.WorkedPruning.{pruning_law}
use Rattle.pass_ledger.proofs.examples.law_worked_floors.Goals as goal

pub returns : goal.returns
returns c = record { honest = honest; dropping = dropping_law; pruning = pruning_law }
