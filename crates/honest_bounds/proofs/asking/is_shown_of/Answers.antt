use Rattle.std.proofs.Common.{subst}
use Rattle.honest_states.specs.declared.mode.Narrowed.{Narrowed}
use Rattle.honest_states.specs.declared.mode.Narrowed.TheVariants.{Never, To}
use Rattle.honest_steps.specs.Views.{LeavesInner}
use Rattle.honest_steps.specs.declared.views.View.TheVariants.{Here}
use Rattle.honest_steps.proofs.Tables.{ok_one}
use Rattle.honest_bounds.proofs.Narrowing.{inner_enters, shown_never, shown_to}
use Rattle.honest_bounds.proofs.asking.is_shown_of.Goals as goal

pub returns-in-Never : goal.returns-in-Never
returns-in-Never c = λ _ g lt.
    shown_never c.args.model.now c.args.modes.now c.args.mode.now g c.args.asked
    (inner_enters c.args.model.now c.args.mode.now Never (subst (λ (left : Narrowed). LeavesInner c.args.model.now Here c.args.mode.now left) c.in-Never.is c.in_ok-inner.ensures) g)

pub returns-in-To : goal.returns-in-To
returns-in-To c = ok_one c.is_shown_by_all.result _ _ c.is_shown_by_all.ensures (λ shown h yes g lt.
    shown_to c.args.model.now c.args.modes.now c.args.mode.now g c.args.asked c.in-To.inside
    (inner_enters c.args.model.now c.args.mode.now (To c.in-To.inside) (subst (λ (left : Narrowed). LeavesInner c.args.model.now Here c.args.mode.now left) c.in-To.is c.in_ok-inner.ensures) g) (h yes g lt))
