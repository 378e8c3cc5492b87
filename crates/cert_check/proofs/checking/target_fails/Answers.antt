use Rattle.std.proofs.Common.{rules}
use Rattle.cert_check.proofs.checking.target_fails.Goals as goal

pub pack-requires : goal.pack-requires
pack-requires g c = (c.args.looker.now, c.layout.ensures, search rules)
