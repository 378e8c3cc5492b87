use Rattle.std.proofs.Common.{subst}
use Rattle.honest_states.specs.declared.mode.Narrowed.{Narrowed}
use Rattle.honest_steps.specs.Views.{LeavesInner}
use Rattle.honest_steps.specs.declared.views.View.TheVariants.{After}
use Rattle.honest_steps.proofs.Tables.{ok_one}
use Rattle.honest_bounds.proofs.Bears.{kept_never, kept_to}
use Rattle.honest_bounds.proofs.bearing.is_kept.Goals as goal

pub returns-in-Never : goal.returns-in-Never
returns-in-Never c = λ _.
    kept_never c.args.model.now c.args.mode.now c.args.ground c.args.e.now (c.in_ok-ends.ensures c.if-not-branch.false)
    (subst (λ (left : Narrowed). LeavesInner c.args.model.now (After c.args.ground) c.args.mode.now left) c.in-Never.is c.in_ok-inner.ensures)

pub returns-in-To : goal.returns-in-To
returns-in-To c = ok_one c.bears.result _ _ c.bears.ensures (λ shown h yes.
    kept_to c.args.model.now c.args.mode.now c.args.ground c.args.e.now c.in-To.inside (c.in_ok-ends.ensures c.if-not-branch.false)
    (subst (λ (left : Narrowed). LeavesInner c.args.model.now (After c.args.ground) c.args.mode.now left) c.in-To.is c.in_ok-inner.ensures) (h yes))
