use Rattle.content_guards.proofs.Costs.{costs_law}
use Rattle.content_guards.proofs.Transitions.{transitions_law, transitions_of_law}
use Rattle.content_guards.proofs.transitions_are_given.Goals as goal

pub returns : goal.returns
returns c = record { alone = transitions_law; in_model = transitions_of_law; costs = costs_law }
