use Rattle.std.proofs.Common.{refl}
use Rattle.pass_alone.proofs.Turns.{closes, closes_in_vain, done_first, is_done, ready_there}
use Rattle.pass_alone.proofs.steps.close_layer.Goals as goal

pub close-requires : goal.close-requires
close-requires g c =
    let a = c.requires.3 in
    (c.requires.0, a.goes.shard_record, a.goes.stands, ready_there c.requires.0 c.args.shard.now a.goes.shard_record a.first c.requires.4)

pub halt-requires : goal.halt-requires
halt-requires g c = c.requires.3.on_board

pub returns-then-is_done-clause-ends : goal.returns-then-is_done-clause-ends
returns-then-is_done-clause-ends g c = λ p budget suited a rdy.
    is_done p c.args.board.now budget c.args.shard.now c.args.seat.now a (done_first p c.args.shard.now a.goes.shard_record a.first ((c.if-is_done.ensures p a.goes.shard_record a.goes.stands).0 refl))

pub returns-in-Ok-clause-goes_on : goal.returns-in-Ok-clause-goes_on
returns-in-Ok-clause-goes_on g c = λ p budget suited a rdy.
    closes p c.args.board.now budget c.args.shard.now c.args.seat.now a c.close.new.self c.close.ensures.me c.in-Ok.field-0 (c.in-Ok.ensures.closed p a.goes.shard_record suited a.goes.stands (ready_there p c.args.shard.now a.goes.shard_record a.first rdy))

pub returns-in-Err-clause-ends : goal.returns-in-Err-clause-ends
returns-in-Err-clause-ends g c = λ p budget suited a rdy.
    closes_in_vain p c.args.board.now budget c.args.shard.now c.args.seat.now a c.close.new.self c.close.ensures.me (c.in-Err.ensures.ended p a.goes.shard_record a.goes.stands)
    c.halt.new.seat c.halt.result (record { ended = c.halt.ensures.ended; on_board = c.halt.ensures.seat; view = c.halt.ensures.view })
