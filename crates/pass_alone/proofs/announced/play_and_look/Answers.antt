use Rattle.pass_alone.proofs.announced.play_and_look.Goals as goal

pub make_steps_and_look-requires : goal.make_steps_and_look-requires
make_steps_and_look-requires g c = let k = c.requires in (k.0, k.1, k.4.rests, k.5, k.6, k.7, k.8)

pub leave-room-requires : goal.leave-room-requires
leave-room-requires g c = c.requires.4.room

pub returns : goal.returns
returns g c = λ p suited was seat b last before faults t.
    let l = c.make_steps_and_look.ensures p suited b.rests last before faults t in
    (record { split = b.split; shard_record = l.0.stops.shard_record; on_board = l.0.on_board; left = c.leave-room.ensures p c.args.board.now c.make_steps_and_look.result c.make_steps_and_look.new.seat l.0 }, l.1)
