use Rattle.honest_states.specs.Symbols.{IsClosed}
use Rattle.honest_steps.proofs.Tables.{ok_one}
use Rattle.honest_steps.proofs.Left.{left_closed}
use Rattle.honest_steps.proofs.inside.left_by.Goals as goal

pub returns-then-is_closed : goal.returns-then-is_closed
returns-then-is_closed c =
    let closed : IsClosed c.args.table.now c.args.free c.args.own.now = c.is_closed.ensures c.if-is_closed.true in
    ok_one c.narrowed.result _ _ c.narrowed.ensures (λ left narrowed. left_closed c.args.mode.now c.args.table.now c.args.free c.args.own.now c.args.bit.now left closed narrowed)
