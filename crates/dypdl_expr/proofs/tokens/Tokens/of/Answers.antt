use Rattle.std.proofs.lemmas.Str.{IsCharBoundary-start}
use Rattle.dypdl_expr.proofs.tokens.Tokens.of.Goals as goal

pub invariant_of-result : goal.invariant_of-result
invariant_of-result c = (c.requires, IsCharBoundary-start c.args.text.now c.utf8.text)
