use Rattle.std.proofs.Common.{◌≡◌, ◌∙◌, ap, subst, sym, arith}
use Rattle.std.specs.Prelude.{IfOk}
use Rattle.cert_types.specs.Places.{IsPart}
use Rattle.cert_types.specs.declared.parts.CheckPart.{CheckPart}
use Rattle.cert_laws.proofs.PartChecks.{whole_checks}
use Rattle.cert_laws.specs.PartChecks.{checked_in}
use Rattle.cert_laws.specs.declared.answers.Checked.{Checked}
use Rattle.cert_check.proofs.checking.check.Goals as goal

pub check_part-requires : goal.check_part-requires
check_part-requires c = subst IsPart (sym c.whole.ensures) (omega arith, omega arith, omega arith)

pub returns : goal.returns
returns c =
    subst (λ (z : Checked). IfOk c.check_part.result (λ (told : Checked). told ≡ z))
    (ap (λ (part : CheckPart). checked_in part c.args.model.now c.args.cert.now) c.whole.ensures ∙ whole_checks c.args.model.now c.args.cert.now) c.check_part.ensures
