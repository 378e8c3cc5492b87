use Rattle.content_guards.proofs.Variables.{variables_law, variables_of_law, preferences}
use Rattle.content_guards.proofs.variables_are_given.Goals as goal

pub returns : goal.returns
returns c = record { alone = variables_law; in_model = variables_of_law; preferences = preferences }
