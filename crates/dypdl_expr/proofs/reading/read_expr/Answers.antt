use Rattle.std.proofs.Common.{◌≡◌, List, [], subst}
use Rattle.std.specs.Prelude.{MatchResult}
use Rattle.dypdl_expr.specs.Tokens.{Token}
use Rattle.dypdl_expr.specs.Grammar.{Begins}
use Rattle.dypdl_expr.specs.Refusals.{WholeFails, MemoryOr}
use Rattle.dypdl_expr.specs.declared.expr.Expr.{Expr}
use Rattle.dypdl_expr.specs.declared.expr.ExprEnd.{ExprEnd}
use Rattle.dypdl_expr.specs.declared.expr.ExprEnd.TheVariants.{Memory}
use Rattle.dypdl_expr.proofs.Whole.{only_expression, only_refusal}
use Rattle.dypdl_expr.proofs.reading.read_expr.Goals as goal

pub returns-clause-every : goal.returns-clause-every
returns-clause-every c =
    subst (λ (all : List Token). (e : Expr) → Begins 200 all e [] → MatchResult c.whole.result (λ found. found ≡ e) (λ r. r ≡ Memory)) c.of.ensures
    (only_expression 200 c.of.result c.whole.result c.whole.ensures.read c.whole.ensures.refused)

pub returns-clause-every_refusal : goal.returns-clause-every_refusal
returns-clause-every_refusal c =
    subst (λ (all : List Token). (r : ExprEnd) → WholeFails 200 all r → MatchResult c.whole.result (λ _. ⊥) (λ found. MemoryOr (λ first. first ≡ r) found)) c.of.ensures
    (only_refusal 200 c.of.result c.whole.result c.whole.ensures.read c.whole.ensures.refused)
