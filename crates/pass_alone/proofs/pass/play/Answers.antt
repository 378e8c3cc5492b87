use Rattle.pass_alone.proofs.pass.play.Goals as goal

pub make_steps-requires : goal.make_steps-requires
make_steps-requires g c = let k = c.requires in (k.0, k.1, k.4.rests)

pub leave-room-requires : goal.leave-room-requires
leave-room-requires g c = c.requires.4.room

pub returns : goal.returns
returns g c = λ p suited was seat b.
    let l = c.make_steps.ensures p suited b.rests in
    record { split = b.split; shard_record = l.stops.shard_record; on_board = l.on_board; left = c.leave-room.ensures p c.args.board.now c.make_steps.result c.make_steps.new.seat l }
