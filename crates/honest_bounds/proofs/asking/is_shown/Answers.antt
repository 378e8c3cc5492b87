use Rattle.std.proofs.Common.{subst}
use Rattle.honest_states.specs.declared.mode.Narrowed.{Narrowed}
use Rattle.honest_steps.specs.Moves.{Enters}
use Rattle.honest_steps.proofs.Tables.{ok_one}
use Rattle.honest_bounds.proofs.Narrowing.{shown_never, shown_to}
use Rattle.honest_bounds.proofs.asking.is_shown.Goals as goal

pub returns-in-Never : goal.returns-in-Never
returns-in-Never c = λ _.
    shown_never c.args.model.now c.args.modes.now c.args.mode.now c.args.ground c.args.asked
    (subst (λ (left : Narrowed). Enters c.args.model.now c.args.mode.now c.args.ground left) c.in-Never.is c.in_ok-entered.ensures)

pub returns-in-To : goal.returns-in-To
returns-in-To c = ok_one c.is_shown_inside.result _ _ c.is_shown_inside.ensures (λ shown h yes.
    shown_to c.args.model.now c.args.modes.now c.args.mode.now c.args.ground c.args.asked c.in-To.inside
    (subst (λ (left : Narrowed). Enters c.args.model.now c.args.mode.now c.args.ground left) c.in-To.is c.in_ok-entered.ensures) (h yes))
