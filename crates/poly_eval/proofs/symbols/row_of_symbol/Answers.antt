use Rattle.std.proofs.Common.{rules, ℕ, Option, ℤ}
use Rattle.dp_model.specs.Evaluation.{has, set_held}
use Rattle.poly_eval.specs.Shows.{ShowsValue}
use Rattle.poly_eval.specs.Bits.{Tells}
use Rattle.poly_eval.proofs.Steps.{if_ok}
use Rattle.dp_model.specs.declared.parts.PlainValue.{PlainValue}
use Rattle.poly_eval.proofs.symbols.row_of_symbol.Goals as goal

pub returns-in-Members : goal.returns-in-Members
returns-in-Members c =
    let shown : (v : ℕ → ℤ) (held : Option PlainValue) → ShowsValue v c.args.symbol.now held → Tells v c.deref.result.now (has (set_held held)) = search rules in
    if_ok c.same_row.result _ _ c.same_row.ensures.bits (λ row h v held shows. h v (has (set_held held)) (shown v held shows))
