use Rattle.std.proofs.Common.{[], ◌∷◌, false, sym, ap, subst, ◌∙◌}
use Rattle.best_ends.specs.Ends.{IsBestEnd}
use Rattle.best_over.proofs.Telling.{whole}
use Rattle.board_words.specs.Seats.{SeatFacts}
use Rattle.best_alone.proofs.Overs.{is_over}
use Rattle.best_alone.proofs.search.end_search.Goals as goal

pub join-requires-clause-seat : goal.join-requires-clause-seat
join-requires-clause-seat g c = c.requires.3.split.on_board

pub join-requires-clause-other : goal.join-requires-clause-other
join-requires-clause-other g c = c.requires.3.on_board

pub tell-requires-clause-over : goal.tell-requires-clause-over
tell-requires-clause-over g c =
    let r = c.requires in
    (r.0, r.1, c.args.played.own ∷ [], r.2, is_over r.0 c.args.board.now c.args.options.now.budget r.1 c.args.seat.now c.args.played r.3 c.join.new.seat.view c.join.ensures.view)

pub returns-clause-whole : goal.returns-clause-whole
returns-clause-whole g c =
    let r = c.requires in
    let d = c.args.played in
    ap (λ (s : SeatFacts). s.view.part) c.tell.ensures.same
    ∙ whole r.0 c.args.options.now.budget d.before r.1 c.join.new.seat.view (d.own ∷ []) d.room.ends.items d.room.logs.items false (is_over r.0 c.args.board.now c.args.options.now.budget r.1 c.args.seat.now d r.3 c.join.new.seat.view c.join.ensures.view)

pub returns-clause-answer : goal.returns-clause-answer
returns-clause-answer g c = λ b was law h.
    subst (λ (s : SeatFacts). IsBestEnd b was s.view c.tell.result) (sym c.tell.ensures.same)
    (c.tell.ensures.answer b was (c.args.played.own ∷ []) law (is_over b c.args.board.now c.args.options.now.budget was c.args.seat.now c.args.played h c.join.new.seat.view c.join.ensures.view))
