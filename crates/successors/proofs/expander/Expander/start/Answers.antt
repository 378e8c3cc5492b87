use Rattle.std.proofs.Common.{rules}
use Rattle.successors.proofs.expander.Expander.start.Goals as goal

pub pack-requires : goal.pack-requires
pack-requires g c = (c.self.inside.model.now, c.self.invariant.1, search rules)
