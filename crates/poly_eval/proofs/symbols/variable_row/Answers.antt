use Rattle.std.proofs.Common.{refl, length, slice_get}
use Rattle.std.proofs.lemmas.Option.{slice_get_read}
use Rattle.poly_eval.proofs.Steps.{if_ok}
use Rattle.poly_eval.proofs.symbols.variable_row.Goals as goal

pub returns-in-Some : goal.returns-in-Some
returns-in-Some c =
    let look = c.in-Some.ensures.lookup in
    let here = slice_get_read c.args.symbols.now (length c.args.symbols.now) c.args.place c.in-Some.symbol.now refl look.3.0 look.1 in
    if_ok c.row_of_symbol.result _ _ c.row_of_symbol.ensures (λ p h v s shows. h v (slice_get s.values c.args.place) (shows c.args.place c.in-Some.symbol.now here))
