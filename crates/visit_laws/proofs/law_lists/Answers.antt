use Rattle.visit_laws.proofs.Listed.{forced_listed, others_listed}
use Rattle.visit_laws.proofs.law_lists.Goals as goal

pub returns : goal.returns
returns c = record { forced = forced_listed; others = others_listed }
