use Rattle.cert_text.proofs.LineNumbers.{lines_told}
use Rattle.cert_text.proofs.laws.law_lines.Goals as goal

pub returns : goal.returns
returns c = lines_told
