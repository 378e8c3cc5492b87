use Rattle.std.proofs.Common.{subst}
use Rattle.state_layout.specs.Flat.{HasNoResource}
use Rattle.state_layout.proofs.Flattening.{no_merit_in}
use Rattle.state_layout.proofs.layout.Layout.merit.Goals as goal

pub returns-else-self : goal.returns-else-self
returns-else-self c = no_merit_in c.args.self.now c.args.p.now.values (subst HasNoResource c.self.view_is (c.self.invariant.2.0 c.if-self.false))
