use Rattle.std.proofs.Common.{is_ok, ap, subst, sym, ◌≡◌, List, length, arith}
use Rattle.std.proofs.ResultArms.{chosen}
use Rattle.std.proofs.lemmas.Result.{IfOk-weaker, MatchResult-weaker}
use Rattle.dp_base.proofs.Memory.{memory_or}
use Rattle.dypdl_expr.specs.Tokens.{Token}
use Rattle.dypdl_expr.specs.Grammar.{Begins}
use Rattle.dypdl_expr.specs.Lexemes.{followed_by}
use Rattle.dypdl_expr.specs.Refusals.{is_memory}
use Rattle.dypdl_expr.specs.declared.expr.Expr.{Expr}
use Rattle.dypdl_expr.proofs.ReadSteps.{RowSoFar, row_more, begins_shortens, word_form, list_form, bars_form, word_fails, list_fails, bars_fail}
use Rattle.dypdl_expr.proofs.reading.+form.Goals as goal

pub form-returns-in-Word-clause-read : goal.form-returns-in-Word-clause-read
form-returns-in-Word-clause-read t c =
    rw c.in-Word.is (IfOk-weaker c.word.result _ _ (λ e is. word_form c.args.levels _ _ e _ (omega arith) is) c.word.ensures.read)

pub form-returns-in-Word-clause-refused : goal.form-returns-in-Word-clause-refused
form-returns-in-Word-clause-refused t c =
    rw c.in-Word.is (MatchResult-weaker c.word.result c.word.ensures.refused (λ e is. is) (λ r is. memory_or is_memory _ _ (word_fails c.args.outer c.args.levels _ _ _ (omega arith)) r is))

pub form-returns-in-Open-clause-read : goal.form-returns-in-Open-clause-read
form-returns-in-Open-clause-read t c =
    rw c.in-Open.is (IfOk-weaker c.list.result _ _ (λ e is. list_form c.args.levels _ _ e _ (omega arith) is) c.list.ensures.read)

pub form-returns-in-Open-clause-refused : goal.form-returns-in-Open-clause-refused
form-returns-in-Open-clause-refused t c =
    rw c.in-Open.is (MatchResult-weaker c.list.result c.list.ensures.refused (λ e is. is) (λ r is. memory_or is_memory _ _ (list_fails c.args.outer c.args.levels _ _ (omega arith)) r is))

pub form-returns-in-Bar-clause-read : goal.form-returns-in-Bar-clause-read
form-returns-in-Bar-clause-read t c =
    rw c.in-Bar.is (IfOk-weaker c.bars.result _ _ (λ e is. bars_form c.args.levels _ _ e _ (omega arith) is) c.bars.ensures.read)

pub form-returns-in-Bar-clause-refused : goal.form-returns-in-Bar-clause-refused
form-returns-in-Bar-clause-refused t c =
    rw c.in-Bar.is (MatchResult-weaker c.bars.result c.bars.ensures.refused (λ e is. is) (λ r is. memory_or is_memory _ _ (bars_fail c.args.outer c.args.levels _ _ (omega arith)) r is))

pub row-loop-items-smaller : goal.row-loop-items-smaller
row-loop-items-smaller t c =
    let same : length c.loop-items.tokens ≡ length (followed_by c.next-token.result c.next-token.new.self) = ap length c.next-token.ensures in
    let less = begins_shortens c.args.levels (followed_by c.next-token.result c.next-token.new.self) c.in_ok-item.item c.form.new.tokens c.in_ok-item.ensures.read in
    omega (arith, same, less)

pub row-loop-items-preserved : goal.row-loop-items-preserved
row-loop-items-preserved t c =
    let pushed = chosen _ _ _ _ c.push-in-loop-items.ensures.items (ap is_ok c.in_ok-push-2.was) in
    let one = subst (λ (ts : List Token). Begins c.args.levels ts c.in_ok-item.item c.form.new.tokens) (sym c.next-token.ensures) c.in_ok-item.ensures.read in
    subst (λ (xs : List Expr). RowSoFar (Begins c.args.levels) c.args.head c.args.tokens.now xs c.form.new.tokens) (sym pushed)
    (row_more (Begins c.args.levels) c.args.head c.args.tokens.now c.loop-items.items.items c.in_ok-item.item c.loop-items.tokens c.form.new.tokens c.loop-items.invariant one)
