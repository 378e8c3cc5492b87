use Rattle.dypdl_expr.specs.Tokens.{tokens_of}
use Rattle.dypdl_expr.proofs.OneAtLeast.{has_whole}
use Rattle.dypdl_expr.proofs.laws.some_reading.Goals as goal

pub returns : goal.returns
returns c text = has_whole 200 (tokens_of text)
