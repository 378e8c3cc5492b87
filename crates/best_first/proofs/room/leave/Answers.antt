use Rattle.std.proofs.Common.{length, arith}
use Rattle.best_first.specs.declared.room.Room.{Room}
use Rattle.best_first.proofs.Leaving.{room_for_more}
use Rattle.best_first.proofs.room.leave.Goals as goal

pub hand_out-requires-clause-room : goal.hand_out-requires-clause-room
hand_out-requires-clause-room g c = λ i v at.
    let r = c.requires.room in
    let held = r.2.posters_room.held_are i v at in
    let room = r.2.posters_room.room i v at in
    omega (arith, r.1, held, room)

pub returns-clause-room : goal.returns-clause-room
returns-clause-room g c =
    let new : Room = record { ends = c.push_reserved.new.self; logs = c.push_reserved-2.new.self; takers = c.push_reserved-3.new.self; seats = c.push_reserved-4.new.self; posters = c.hand_out.new.lists } in
    let t = c.args.seated in
    λ held lt h.
    room_for_more (length c.args.room.now.posters.items) held c.args.room.now new c.end-log.result.0 c.end-log.result.1 t.player.taker t.seat t.player.posters.items h c.requires.posters
    c.push_reserved.ensures.items c.push_reserved-2.ensures.items c.push_reserved-3.ensures.items c.push_reserved-4.ensures.items c.hand_out.ensures
    c.push_reserved.ensures.capacity c.push_reserved-2.ensures.capacity c.push_reserved-3.ensures.capacity c.push_reserved-4.ensures.capacity
