use Rattle.dypdl_rules.proofs.Outcomes.{answered}
use Rattle.dypdl_rules.proofs.expressions.expression_in.Goals as goal

pub returns : goal.returns
returns c = λ read h. answered _ _ _ c.read_expr.ensures.every c.read_expr.ensures.every_refusal (h c.args.text.now)
