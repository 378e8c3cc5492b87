use Rattle.std.proofs.Common.{subst}
use Rattle.cert_check.specs.declared.standings.Standing.{Standing}
use Rattle.cert_check.specs.Looked.{StandingFits}
use Rattle.cert_check.proofs.Rows.{at_place}
use Rattle.cert_check.proofs.standings.made.Goals as goal

pub stepped-requires-clause-node : goal.stepped-requires-clause-node
stepped-requires-clause-node g c =
    subst (λ (s : Standing). StandingFits c.args.looker.now s) c.in-Stands.is
    (c.requires.before c.args.step.parent c.index-before-step.result (at_place c.args.before.now c.args.step.parent c.index-before-step.result c.requires.parent c.index-before-step.is))
