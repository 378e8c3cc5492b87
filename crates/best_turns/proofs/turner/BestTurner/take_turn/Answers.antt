use Rattle.std.proofs.Common.{Option, Some, sym, subst, ◌∙◌}
use Rattle.std.proofs.lemmas.Option.{none-some}
use Rattle.best_turns.proofs.Acting.{turned, ends_ended}
use Rattle.best_turns.specs.Turners.{KeepsAs}
use Rattle.best_seats.specs.declared.ended.BestEnded.{BestEnded}
use Rattle.best_turns.proofs.turner.BestTurner.take_turn.Goals as goal

pub returns-in-Err-clause-keeps : goal.returns-in-Err-clause-keeps
returns-in-Err-clause-keeps g c = λ p suited a.
    let before = turned p c.args.board.now c.args.boxes.now.boxes.items c.args.self.now c.args.seat.now a c.saturating_add-self.result in
    ends_ended p c.args.board.now c.args.boxes.now.boxes.items c.in-Err.end c.act.new.self c.act.new.seat (c.in-Err.ensures.ends p suited before) (Some c.in-Err.end)

pub returns-in_default-clause-keeps : goal.returns-in_default-clause-keeps
returns-in_default-clause-keeps g c = λ p suited a.
    let before = turned p c.args.board.now c.args.boxes.now.boxes.items c.args.self.now c.args.seat.now a c.saturating_add-self.result in
    subst (λ (ended : Option BestEnded). KeepsAs p c.args.board.now c.args.boxes.now.boxes.items ended c.act.new.self c.act.new.seat) (sym (c.act.ensures.same ∙ c.requires.goes_on)) (c.in_default.ensures.acts p suited before).0

pub returns-in_default-clause-works : goal.returns-in_default-clause-works
returns-in_default-clause-works g c = λ p suited a _.
    c.in_default.ensures.acts p suited (turned p c.args.board.now c.args.boxes.now.boxes.items c.args.self.now c.args.seat.now a c.saturating_add-self.result)

pub returns-in-Err-clause-works : goal.returns-in-Err-clause-works
returns-in-Err-clause-works g c = λ p suited a going. absurd (none-some c.in-Err.end (sym going))
