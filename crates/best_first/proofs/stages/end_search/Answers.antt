use Rattle.std.proofs.Common.{sym, ap, subst, ◌∙◌}
use Rattle.best_ends.specs.Ends.{IsBestEnd}
use Rattle.best_first.specs.Crews.{seats_of}
use Rattle.best_first.proofs.Running.{is_over}
use Rattle.best_over.proofs.Telling.{whole}
use Rattle.best_first.proofs.stages.end_search.Goals as goal
use Rattle.best_ledger.specs.Searches.{pass_of}
use Rattle.board_words.specs.Seats.{SeatFacts}

pub gather-ends-requires-clause-seat : goal.gather-ends-requires-clause-seat
gather-ends-requires-clause-seat g c = c.requires.begun.3.on_board

pub gather-ends-requires-clause-keep : goal.gather-ends-requires-clause-keep
gather-ends-requires-clause-keep g c = let r = c.requires.begun in (pass_of r.0, r.3.keep, r.3.room_for)

pub tell-requires-clause-over : goal.tell-requires-clause-over
tell-requires-clause-over g c =
    let r = c.requires.begun in
    let b = c.args.begun in
    let left = c.gather-ends in
    let over = is_over r.0 c.args.board.now c.args.options.now.budget b.before r.1 c.args.seat.now b.shards.items b.boxes b.room r.3 left.new.seat.view left.result.ends.items left.result.logs.items left.result.lost left.ensures.view (left.ensures.left (pass_of r.0) r.3.keep) in
    (r.0, r.1, seats_of b.shards.items, r.2, over)

pub returns-clause-whole : goal.returns-clause-whole
returns-clause-whole g c =
    let r = c.requires.begun in
    let b = c.args.begun in
    let left = c.gather-ends in
    let over = is_over r.0 c.args.board.now c.args.options.now.budget b.before r.1 c.args.seat.now b.shards.items b.boxes b.room r.3 left.new.seat.view left.result.ends.items left.result.logs.items left.result.lost left.ensures.view (left.ensures.left (pass_of r.0) r.3.keep) in
    ap (λ (s : SeatFacts). s.view.part) c.tell.ensures.same ∙ whole r.0 c.args.options.now.budget b.before r.1 left.new.seat.view (seats_of b.shards.items) left.result.ends.items left.result.logs.items left.result.lost over

pub returns-clause-answer : goal.returns-clause-answer
returns-clause-answer g c = λ s was law begun.
    let b = c.args.begun in
    let left = c.gather-ends in
    let over = is_over s c.args.board.now c.args.options.now.budget b.before was c.args.seat.now b.shards.items b.boxes b.room begun left.new.seat.view left.result.ends.items left.result.logs.items left.result.lost left.ensures.view (left.ensures.left (pass_of s) begun.keep) in
    subst (λ (x : SeatFacts). IsBestEnd s was x.view c.tell.result) (sym c.tell.ensures.same) (c.tell.ensures.answer s was (seats_of b.shards.items) law over)
