use Rattle.text_laws.proofs.LineNames.{line_names}
use Rattle.text_laws.proofs.law_line_names.Goals as goal

pub returns : goal.returns
returns c = line_names
