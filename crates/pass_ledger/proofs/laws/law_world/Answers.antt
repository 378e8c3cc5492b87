use Rattle.pass_ledger.proofs.Done.{records_law}
use Rattle.pass_ledger.proofs.Runs.{runs_law}
use Rattle.pass_ledger.proofs.laws.law_world.Goals as goal

pub returns : goal.returns
returns c = record { records = records_law; runs = runs_law }
