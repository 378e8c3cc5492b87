use Rattle.std.proofs.Common.{◌≡◌, subst}
use Rattle.std.specs.Prelude.{IfOk}
use Rattle.cert_laws.specs.declared.answers.Checked.{Checked}
use Rattle.cert_check.proofs.Whole.{told_claim, told_layers, told_target}
use Rattle.cert_check.proofs.checking.check_by.Goals as goal

pub returns-in-Some : goal.returns-in-Some
returns-in-Some g c = told_target c.args.part c.args.model.now c.in_ok-looker.looker c.args.cert.now c.in_ok-reason.field-0 c.in-Some.reason c.in_ok-looker.ensures c.in_ok-reason.ensures c.in-Some.is

pub returns-in-Some-2 : goal.returns-in-Some-2
returns-in-Some-2 g c =
    told_claim c.args.part c.args.model.now c.in_ok-looker.looker c.args.cert.now c.in_ok-reason.field-0 c.in_ok-reason-2.field-0 c.in-Some-2.reason c.in_ok-looker.ensures c.in_ok-reason.ensures c.in_default.is c.in_ok-reason-2.ensures c.in-Some-2.is

pub returns : goal.returns
returns g c =
    subst (λ (z : Checked). IfOk c.layers_told.result (λ (told : Checked). told ≡ z))
    (told_layers c.args.part c.args.model.now c.in_ok-looker.looker c.args.cert.now c.in_ok-reason.field-0 c.in_ok-reason-2.field-0 c.in_ok-looker.ensures c.in_ok-reason.ensures c.in_default.is c.in_ok-reason-2.ensures c.in_default-2.is)
    c.layers_told.ensures
