use Rattle.std.proofs.Common.{ap, ◌∙◌}
use Rattle.joined_seats.specs.Joined.{joined}
use Rattle.best_first.proofs.Ended.{are_full, have_left, of_boxes, seats_on}
use Rattle.best_first.proofs.ending.gather.Goals as goal

pub leave_all-ends-requires-clause-posters : goal.leave_all-ends-requires-clause-posters
leave_all-ends-requires-clause-posters g c = let k = c.requires.keep in are_full k.0 c.args.board.now c.args.boxes.items c.args.shards.items k.1

pub join_seats-requires-clause-seats : goal.join_seats-requires-clause-seats
join_seats-requires-clause-seats g c = let k = c.requires.keep in seats_on k.0 c.args.board.now c.args.boxes.items c.args.shards.items k.1 c.leave_all-ends.result.seats.items c.leave_all-ends.ensures.apart.seats

pub settle_all-all_taken-requires : goal.settle_all-all_taken-requires
settle_all-all_taken-requires g c = let k = c.requires.keep in
    of_boxes k.0 c.args.board.now c.args.boxes.items c.args.shards.items k.1 c.leave_all-ends.result c.leave_all-ends.ensures.apart c.leave_all-ends.ensures.room

pub returns-clause-view : goal.returns-clause-view
returns-clause-view g c = c.join_seats.ensures.view ∙ ap (joined c.args.seat.now.view) c.leave_all-ends.ensures.apart.seats

pub returns-clause-left : goal.returns-clause-left
returns-clause-left g c = λ p keep.
    have_left p c.args.board.now c.args.boxes.items c.args.shards.items keep c.leave_all-ends.result c.leave_all-ends.ensures.apart c.leave_all-ends.ensures.room c.settle_all-all_taken.ensures.begun
    c.args.resting c.settle_all-all_taken.result c.is_lost.result c.requires.rest c.requires.stopped c.settle_all-all_taken.ensures.all c.is_lost.ensures
