use Rattle.text_laws.proofs.RecordsOf.{record_of, run_of}
use Rattle.text_laws.proofs.law_record_of.Goals as goal

pub returns : goal.returns
returns c = record { passes = record_of; best = run_of }
