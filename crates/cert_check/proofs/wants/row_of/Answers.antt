use Rattle.std.proofs.Common.{arith}
use Rattle.cert_check.proofs.Leaps.{no_wants}
use Rattle.cert_check.proofs.wants.row_of.Goals as goal

pub returns-in-Some : goal.returns-in-Some
returns-in-Some c = c.row_with.ensures c.args.model.now c.args.place c.requires.there c.in-Some.ensures.kind c.in-Some.ensures.wants c.requires.behind

pub returns-in-None : goal.returns-in-None
returns-in-None c = no_wants c.args.model.now c.args.place c.no_row.result c.no_row.ensures (omega (arith, c.requires.there))
