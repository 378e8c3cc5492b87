use Rattle.text_laws.proofs.Telling.{read_record}
use Rattle.text_laws.proofs.law_read_record.Goals as goal

pub returns : goal.returns
returns c = read_record
