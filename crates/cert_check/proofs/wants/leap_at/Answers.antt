use Rattle.std.proofs.Common.{arith}
use Rattle.std.proofs.lemmas.Option.{slice_get-get_or}
use Rattle.cert_check.proofs.Leaps.{plain_leaves}
use Rattle.cert_check.proofs.wants.leap_at.Goals as goal

pub leap_over-requires-clause-row : goal.leap_over-requires-clause-row
leap_over-requires-clause-row c = c.requires.rows.are c.args.place _ (slice_get-get_or c.args.rows.now c.args.place _ (omega (arith, c.requires.there, c.requires.rows.many)))

pub returns : goal.returns
returns c = plain_leaves c.args.at.now.model.now _ c.args.place c.requires.there
