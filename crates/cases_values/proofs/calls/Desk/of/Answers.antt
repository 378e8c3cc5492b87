use Rattle.std.proofs.Common.{sym, subst}
use Rattle.state_layout.specs.Conditions.{IsStateOf}
use Rattle.cases_values.proofs.calls.Desk.of.Goals as goal

pub pack-requires : goal.pack-requires
pack-requires c =
    let held : IsStateOf c.args.model.now c.target.result.now = subst (IsStateOf c.args.model.now) (sym c.target.ensures) c.args.model.now.held in
    (c.args.model.now, c.in_ok-layout.ensures, held)

pub returns-clause-state : goal.returns-clause-state
returns-clause-state c =
    let held : IsStateOf c.args.model.now c.target.result.now = subst (IsStateOf c.args.model.now) (sym c.target.ensures) c.args.model.now.held in
    (c.args.model.now, c.in_ok-layout.ensures, c.in_ok-state.ensures.packed c.args.model.now held)
