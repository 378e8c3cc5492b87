use Rattle.wide_steps.proofs.Steps.{steps_law}
use Rattle.wide_steps.proofs.laws.law_wide_steps.Goals as goal

pub returns : goal.returns
returns c = steps_law c.law_wide.ensures
