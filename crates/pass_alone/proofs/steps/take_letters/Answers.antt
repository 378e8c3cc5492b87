use Rattle.pass_alone.proofs.Turns.{hands, runs_out}
use Rattle.pass_alone.proofs.steps.take_letters.Goals as goal

pub hand_over-requires : goal.hand_over-requires
hand_over-requires g c = (c.requires.0, c.requires.2, c.requires.3.goes)

pub halt-requires : goal.halt-requires
halt-requires g c = c.requires.3.on_board

pub returns-in-Ok-clause-goes_on : goal.returns-in-Ok-clause-goes_on
returns-in-Ok-clause-goes_on g c = λ p budget suited a.
    let x = c.in-Ok.ensures.goes_on p suited a.goes in
    hands p c.args.board.now budget c.args.shard.now c.args.seat.now a c.hand_over.new.shard c.hand_over.ensures.me x.0 x.1 x.2

pub returns-in-Err-clause-ends : goal.returns-in-Err-clause-ends
returns-in-Err-clause-ends g c = λ p budget suited a.
    let x = c.in-Err.ensures.stops p suited a.goes in
    runs_out p c.args.board.now budget c.args.shard.now c.args.seat.now a c.hand_over.new.shard c.hand_over.ensures.me x.0 x.1 c.halt.new.seat c.halt.result (record { ended = c.halt.ensures.ended; on_board = c.halt.ensures.seat; view = c.halt.ensures.view })
