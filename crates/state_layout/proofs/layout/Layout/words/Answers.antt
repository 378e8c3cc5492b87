use Rattle.state_layout.proofs.Stepping.{packed_fits}
use Rattle.state_layout.proofs.layout.Layout.words.Goals as goal

pub returns-clause-fits : goal.returns-clause-fits
returns-clause-fits c = packed_fits c.args.self.now c.args.p.now c.words.result.now c.words.ensures.state c.words.ensures.row c.requires
