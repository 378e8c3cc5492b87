use Rattle.best_alone.proofs.search.play.Goals as goal

pub make_steps-requires : goal.make_steps-requires
make_steps-requires g c = let k = c.requires in (k.0, k.1, k.4.acts)

pub leave-room-requires : goal.leave-room-requires
leave-room-requires g c = c.requires.4.room

pub returns : goal.returns
returns g c = λ p suited was seat b.
    let l = c.make_steps.ensures p suited b.acts in
    record { split = b.split; on_board = l.on_board; left = c.leave-room.ensures p c.args.board.now c.make_steps.result c.make_steps.new.seat l }
