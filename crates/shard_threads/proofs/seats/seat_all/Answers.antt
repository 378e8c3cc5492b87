use Rattle.std.proofs.Common.{length, ap, refl, ◌∙◌, arith}
use Rattle.std.proofs.lemmas.List.{length_push}
use Rattle.std.specs.Vec.Iter.{into_iter_items}
use Rattle.board_words.specs.Steps.{split_view}
use Rattle.shard_threads.proofs.Seating.{less_more, seated_more, some_left}
use Rattle.shard_threads.proofs.seats.seat_all.Goals as goal

pub loop-player-preserved : goal.loop-player-preserved
loop-player-preserved g c =
    let board = c.args.board.now in
    let view = c.args.seat.now.view in
    let done = c.loop-player.yielded in
    let rest = into_iter_items c.loop-player.player-iterator in
    let after = into_iter_items c.next.new.self in
    let player = c.in-Some.player in
    let h = c.loop-player.invariant in
    let step = c.in-Some.ensures.steps.0 in
    let room = h.room in
    let grown = c.push_reserved.ensures.capacity in
    record {
      seat = c.split.ensures.seats.0;
      seated = seated_more board view done player c.loop-player.all.items c.push_reserved.new.self.items (record { player = player; seat = c.split.result }) h.seated c.push_reserved.ensures.items refl c.split.ensures.seats.1
          (c.split.ensures.new ∙ ap split_view h.left);
      left = less_more view c.loop-player.seat.view c.split.new.seat.view (length done) _ h.left c.split.ensures.old (length_push done player);
      rest = some_left done rest after c.args.players.items player h.rest step;
      room = omega (arith, room, grown);
      can_next = tt;
      is_finite = tt;
    }
