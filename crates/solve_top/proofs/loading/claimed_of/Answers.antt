use Rattle.std.proofs.Common.{[], ◌∷◌}
use Rattle.solve_top.specs.Runs.{RefusedBy}
use Rattle.solve_top.specs.Texts.{AreRefused, Certificate}
use Rattle.solve_top.proofs.Programs.{passed_on}
use Rattle.solve_top.proofs.TextCauses.{refused_of_three, refused_cert}
use Rattle.solve_top.proofs.loading.claimed_of.Goals as goal

pub returns-in_err-model-clause-cause : goal.returns-in_err-model-clause-cause
returns-in_err-model-clause-cause c =
    let d = c.args.texts.now.domain.items in
    let p = c.args.texts.now.problem.items in
    let l = c.args.text.now in
    passed_on c.from_residual.result c.in_err-model.field-0.0 (RefusedBy (AreRefused Certificate (d ∷ p ∷ l ∷ []))) c.from_residual.ensures.1
    (refused_of_three Certificate d p l c.in_err-model.field-0.0 (rw (c.deref.ensures.value, c.deref-2.ensures.value) at c.in_err-model.ensures.cause))

pub returns-in_err-cert-clause-cause : goal.returns-in_err-cert-clause-cause
returns-in_err-cert-clause-cause c =
    let d = c.args.texts.now.domain.items in
    let p = c.args.texts.now.problem.items in
    let l = c.args.text.now in
    passed_on c.from_residual-in_err-cert.result c.in_err-cert.field-0.0 (RefusedBy (AreRefused Certificate (d ∷ p ∷ l ∷ []))) c.from_residual-in_err-cert.ensures.1
    (refused_cert d p l c.in_ok-model.model c.in_err-cert.field-0.0 (rw (c.deref.ensures.value, c.deref-2.ensures.value) at c.in_ok-model.ensures.model) c.in_err-cert.ensures.cause)

pub returns-clause-cert : goal.returns-clause-cert
returns-clause-cert c = (rw (c.deref.ensures.value, c.deref-2.ensures.value) at c.in_ok-model.ensures.model, c.in_ok-cert.ensures.cert)
