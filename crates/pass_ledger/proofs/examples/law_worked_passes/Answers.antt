use Rattle.pass_ledger.proofs.Worked.{first_law, second_law, best_way}
use Rattle.pass_ledger.proofs.examples.law_worked_passes.Goals as goal

pub returns : goal.returns
returns c = record { first = first_law; second = second_law; best = best_way }
