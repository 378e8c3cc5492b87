use Rattle.std.proofs.Common.{List, sym, subst}
use Rattle.dypdl_expr.specs.Tokens.{Token}
use Rattle.dypdl_expr.specs.Grammar.{Begins}
use Rattle.dypdl_expr.specs.Refusals.{WholeFails, MemoryOr}
use Rattle.dypdl_expr.specs.declared.expr.ExprEnd.{ExprEnd}
use Rattle.dypdl_expr.proofs.Whole.{one_too_many}
use Rattle.dypdl_expr.proofs.reading.whole.Goals as goal

pub returns-in_default : goal.returns-in_default
returns-in_default c =
    let all = c.args.tokens.now in
    let read = subst (λ (ts : List Token). Begins c.args.levels ts c.in_ok-e.e c.form.new.tokens) (sym c.next-token.ensures) c.in_ok-e.ensures.read in
    let more = subst (λ (ts : List Token). Begins c.args.levels all c.in_ok-e.e ts) c.next.ensures read in
    record {
      read = tt;
      refused = subst (λ (r : ExprEnd). MemoryOr (WholeFails c.args.levels all) r) (sym c.after_expression.ensures)
          (one_too_many c.args.levels c.match-token.outer all c.in_ok-e.e c.next.result c.next.new.self c.in_default.not-End more);
    }
