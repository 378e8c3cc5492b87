use Rattle.cert_text.proofs.Missing.{missing_lines}
use Rattle.cert_text.proofs.laws.law_missing_lines.Goals as goal

pub returns : goal.returns
returns c = missing_lines
