use Rattle.std.proofs.Common.{Ok, ap, ◌∙◌, subst}
use Rattle.cert_check.specs.declared.standings.Standing.{Standing}
use Rattle.cert_check.specs.Looked.{StandingFits, found}
use Rattle.cert_check.proofs.copies.is_same.Goals as goal

pub are_same-requires-clause-node : goal.are_same-requires-clause-node
are_same-requires-clause-node c = subst (λ (s : Standing). StandingFits c.args.looker.now s) c.in-Stands.is c.requires.fits

pub returns-in-Stands : goal.returns-in-Stands
returns-in-Stands c = λ yes. ap found c.in-Stands.is ∙ ap Ok (c.are_same.ensures yes)
