use Rattle.std.proofs.Common.{Option, Some, sym, subst, ◌∙◌}
use Rattle.std.proofs.lemmas.Option.{none-some}
use Rattle.shard_turns.proofs.Acting.{turned, left_gone}
use Rattle.shard_turns.specs.Turners.{KeepsAs}
use Rattle.shard_seats.specs.declared.ended.Ended.{Ended}
use Rattle.shard_turns.proofs.turner.Turner.take_turn.Goals as goal

pub returns-in-Err-clause-keeps : goal.returns-in-Err-clause-keeps
returns-in-Err-clause-keeps g c = λ p suited a.
    let before = turned p c.args.board.now c.args.boxes.now.items c.args.self.now c.args.seat.now a c.saturating_add-self.result in
    let left = c.in-Err.ensures.ends p suited before in
    left_gone p c.args.board.now c.args.boxes.now.items c.act.new.self c.act.new.seat c.in-Err.end left c.let_go.new.self c.let_go.ensures.me (c.let_go.ensures.ends p left.shard_record left.ends) (Some c.in-Err.end)

pub returns-in_default-clause-keeps : goal.returns-in_default-clause-keeps
returns-in_default-clause-keeps g c = λ p suited a.
    let before = turned p c.args.board.now c.args.boxes.now.items c.args.self.now c.args.seat.now a c.saturating_add-self.result in
    subst (λ (ended : Option Ended). KeepsAs p c.args.board.now c.args.boxes.now.items ended c.act.new.self c.act.new.seat) (sym (c.act.ensures.same ∙ c.requires.goes_on)) (c.in_default.ensures.acts p suited before).0

pub returns-in_default-clause-works : goal.returns-in_default-clause-works
returns-in_default-clause-works g c = λ p suited a _.
    c.in_default.ensures.acts p suited (turned p c.args.board.now c.args.boxes.now.items c.args.self.now c.args.seat.now a c.saturating_add-self.result)

pub returns-in-Err-clause-works : goal.returns-in-Err-clause-works
returns-in-Err-clause-works g c = λ p suited a going. absurd (none-some c.in-Err.end (sym going))
