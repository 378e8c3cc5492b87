use Rattle.std.proofs.Common.{sym, ap, ◌∙◌, Some, w64}
use Rattle.std.proofs.lemmas.Int.{to_z-of_z}
use Rattle.dp_model.specs.declared.answers.Claim.{Claim}
use Rattle.cert_laws.specs.Checks.{is_high}
use Rattle.cert_check.proofs.Tests.{high_cost}
use Rattle.cert_check.proofs.clauses.is_above.Goals as goal

pub returns-in-Optimal : goal.returns-in-Optimal
returns-in-Optimal c m e = (rw (to_z-of_z w64 c.args.n c.ranges.n) at c.is_no_better.ensures) ∙ sym (ap (λ (x : Claim). is_high m x (Some c.args.n)) c.in-Optimal.is ∙ high_cost m c.args.minimize c.in-Optimal.found c.args.n e)
