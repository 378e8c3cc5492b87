use Rattle.record_guards.proofs.Records.{worked_records, worked_words}
use Rattle.record_guards.proofs.law_worked_records.Goals as goal

pub returns : goal.returns
returns c = record { records = worked_records; words = worked_words }
