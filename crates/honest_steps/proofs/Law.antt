-- What steps say in wide values.
use Rattle.wide_values.proofs.Wide.{law_of_wide}
use Rattle.wide_steps.specs.Laws.{LawWideSteps}
use Rattle.wide_steps.proofs.Steps.{steps_law}

pub the_law : LawWideSteps
the_law = steps_law law_of_wide
