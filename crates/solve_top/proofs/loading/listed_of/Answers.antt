use Rattle.std.proofs.Common.{[], ◌∷◌}
use Rattle.solve_top.specs.Runs.{RefusedBy}
use Rattle.solve_top.specs.Texts.{AreRefused, Steps}
use Rattle.solve_top.proofs.Programs.{passed_on}
use Rattle.solve_top.proofs.StepCounts.{few_steps}
use Rattle.solve_top.proofs.TextCauses.{refused_of_three, refused_list}
use Rattle.solve_top.proofs.loading.listed_of.Goals as goal

pub returns-in_err-model-clause-cause : goal.returns-in_err-model-clause-cause
returns-in_err-model-clause-cause c =
    let d = c.args.texts.now.domain.items in
    let p = c.args.texts.now.problem.items in
    let l = c.args.list.now in
    passed_on c.from_residual.result c.in_err-model.field-0.0 (RefusedBy (AreRefused Steps (d ∷ p ∷ l ∷ []))) c.from_residual.ensures.1
    (refused_of_three Steps d p l c.in_err-model.field-0.0 (rw (c.deref.ensures.value, c.deref-2.ensures.value) at c.in_err-model.ensures.cause))

pub returns-in_err-steps-clause-cause : goal.returns-in_err-steps-clause-cause
returns-in_err-steps-clause-cause c =
    let d = c.args.texts.now.domain.items in
    let p = c.args.texts.now.problem.items in
    let l = c.args.list.now in
    passed_on c.from_residual-in_err-steps.result c.in_err-steps.field-0.0 (RefusedBy (AreRefused Steps (d ∷ p ∷ l ∷ []))) c.from_residual-in_err-steps.ensures.1
    (refused_list d p l c.in_ok-model.model c.in_err-steps.field-0.0 (rw (c.deref.ensures.value, c.deref-2.ensures.value) at c.in_ok-model.ensures.model) c.in_err-steps.ensures.cause)

pub returns-clause-steps : goal.returns-clause-steps
returns-clause-steps c = (rw (c.deref.ensures.value, c.deref-2.ensures.value) at c.in_ok-model.ensures.model, c.in_ok-steps.ensures.steps)

pub returns-clause-few : goal.returns-clause-few
returns-clause-few c = few_steps c.in_ok-model.model c.args.list.now c.in_ok-steps.steps c.requires.list c.in_ok-steps.ensures.steps
