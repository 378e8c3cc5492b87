use Rattle.wide_values.proofs.Wide.{law_of_wide}
use Rattle.wide_values.proofs.laws.law_wide.Goals as goal

pub returns : goal.returns
returns c = law_of_wide
