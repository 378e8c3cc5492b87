use Rattle.std.proofs.Common.{◌≡◌, length, slice_get, refl, sym, subst}
use Rattle.std.proofs.lemmas.Option.{slice_get_read}
use Rattle.dp_model.specs.declared.trees.Over.{Over}
use Rattle.poly_terms.specs.Worth.{worth, as_bit}
use Rattle.spot_eval.specs.Moves.{is_member}
use Rattle.honest_steps.proofs.Tables.{ok_some}
use Rattle.honest_steps.proofs.bits.member_bit.Goals as goal

pub returns-in-Some : goal.returns-in-Some
returns-in-Some c =
    let look = c.in-Some.ensures.lookup in
    let here = slice_get_read c.args.symbols.now (length c.args.symbols.now) c.in-Members.place c.in-Some.symbol.now refl look.3.0 look.1 in
    ok_some c.bit_of.result _ _ c.bit_of.ensures (λ p h s v shows.
    subst (λ (over : Over). as_bit (is_member s over c.args.k) ≡ worth v p.items) (sym c.in-Members.is) (h v (slice_get s.values c.in-Members.place) (shows c.in-Members.place c.in-Some.symbol.now here)))
