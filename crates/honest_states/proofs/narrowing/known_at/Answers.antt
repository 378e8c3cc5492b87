use Rattle.std.proofs.Common.{length, slice_get, refl}
use Rattle.std.proofs.lemmas.Option.{slice_get_read}
use Rattle.honest_states.proofs.Lists.{if_ok}
use Rattle.honest_states.proofs.narrowing.known_at.Goals as goal

pub returns-in-Some : goal.returns-in-Some
returns-in-Some c =
    let look = c.in-Some.ensures.lookup in
    let here = slice_get_read c.args.symbols.now (length c.args.symbols.now) c.args.place c.in-Some.symbol.now refl look.3.0 look.1 in
    if_ok c.known_by.result _ _ c.known_by.ensures (λ answer h v s fits facts shows known. h v (slice_get s.values c.args.place) fits facts (shows c.args.place c.in-Some.symbol.now here) known)
