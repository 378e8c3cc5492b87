-- What reading a text gives, and what a reading tells of it.
use Rattle.std.proofs.Common.{◌≡◌, ℕ, List, Result, Ok, Err, MatchResult, sym, ap}
use Rattle.dp_base.specs.Results.{Answers, Refuses}
use Rattle.dypdl_expr.specs.Grammar.{Reads}
use Rattle.dypdl_expr.specs.Refusals.{Refused, MemoryOr}
use Rattle.dypdl_expr.specs.declared.expr.Expr.{Expr}
use Rattle.dypdl_expr.specs.declared.expr.ExprEnd.{ExprEnd}
use Rattle.dypdl_expr.specs.declared.expr.ExprEnd.TheVariants as texts
use Rattle.dypdl_rules.specs.Expressions.{IsOutcome, text_told}

abbrev err : ExprEnd → Result Expr ExprEnd
err r = Err r

-- every expression is read as it, and everything that is refused is refused so
pub answered : (text : List ℕ) (outcome result : Result Expr ExprEnd)
    → ((e : Expr) → Reads text e → MatchResult result (λ found. found ≡ e) (λ r. r ≡ texts.Memory))
    → ((r : ExprEnd) → Refused text r → MatchResult result (λ e. ⊥) (λ found. MemoryOr (λ first. first ≡ r) found))
    → IsOutcome text outcome → Answers text_told result outcome
answered text (Ok e) (Ok found) every refusals h = ap Ok (sym (every e h))
answered text (Ok e) (Err r) every refusals h = rw (every e h) tt
answered text (Err r) (Ok found) every refusals h = absurd (refusals r h)
answered text (Err r) (Err found) every refusals h = told_so found (refusals r h)
  where
    told_so : (found : ExprEnd) → MemoryOr (λ first. first ≡ r) found → Refuses (text_told found) (err r)
    told_so (texts.BadToken at) same = ap err (sym same)
    told_so (texts.Unbalanced at) same = ap err (sym same)
    told_so (texts.Empty at) same = ap err (sym same)
    told_so (texts.Rest at) same = ap err (sym same)
    told_so (texts.TooNested at) same = ap err (sym same)
    told_so texts.Memory same = tt
