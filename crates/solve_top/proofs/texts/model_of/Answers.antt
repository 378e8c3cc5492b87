use Rattle.solve_top.proofs.TextCauses.{whole_means, whole_refused}
use Rattle.solve_top.proofs.texts.model_of.Goals as goal

pub returns-clause-model : goal.returns-clause-model
returns-clause-model c =
    whole_means c.args.domain.now c.args.problem.now c.in_ok-domain.domain c.in_ok-problem.problem c.in_ok-domain.ensures.tree c.in_ok-problem.ensures.tree
    c.model_of_trees.result c.model_of_trees.ensures.model

pub returns-clause-cause : goal.returns-clause-cause
returns-clause-cause c =
    whole_refused c.args.domain.now c.args.problem.now c.in_ok-domain.domain c.in_ok-problem.problem c.in_ok-domain.ensures.tree c.in_ok-problem.ensures.tree
    c.model_of_trees.result c.model_of_trees.ensures.cause
