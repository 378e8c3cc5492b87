use Rattle.best_turns.proofs.Acting.{looks, meets}
use Rattle.best_turns.proofs.turner.BestTurner.look_for_halt.Goals as goal

pub returns-then-halted-gt0-clause-ends : goal.returns-then-halted-gt0-clause-ends
returns-then-halted-gt0-clause-ends g c = λ p _ a. meets p c.args.board.now c.args.boxes.now.items c.args.self.now c.args.seat.now a c.halted.new.seat c.halted.result c.if-halted-gt0.true c.halted.ensures.seat c.halted.ensures.view

pub returns-clause-acts : goal.returns-clause-acts
returns-clause-acts g c = λ p _ a. looks p c.args.board.now c.args.boxes.now.items c.args.self.now c.args.seat.now a c.halted.new.seat c.halted.result c.if-halted-gt0.false c.halted.ensures.seat c.halted.ensures.view
