use Rattle.std.proofs.Common.{◌≡◌, Ok, rules}
use Rattle.dp_model.specs.declared.parts.PlainState.{PlainState}
use Rattle.spot_eval.specs.Moves.{next_at}
use Rattle.spot_eval.proofs.Next.{next_fits}
use Rattle.spot_eval.proofs.effects.next_state.Goals as goal

pub returns-clause-state : goal.returns-clause-state
returns-clause-state c =
    let next : PlainState = record { values = c.of.result } in
    let e : next_at c.args.model.now c.args.s.now c.args.number (c.args.transition.now, c.args.args.now) ≡ Ok next = search rules in
    next_fits c.args.model.now c.args.s.now c.args.number (c.args.transition.now, c.args.args.now) next c.requires e
