use Rattle.std.proofs.Common.{[], ◌∷◌, sym, ap, subst, ◌∙◌}
use Rattle.announce_laws.specs.Called.{IsSolved}
use Rattle.board_words.specs.Seats.{SeatFacts}
use Rattle.board_words.specs.Steps.{best_known}
use Rattle.pass_ends.specs.Ends.{IsPassEnd}
use Rattle.pass_over.proofs.Telling.{whole}
use Rattle.pass_alone.proofs.Overs.{all_solved, is_over}
use Rattle.pass_alone.proofs.pass.end_pass.Goals as goal

pub join-requires-clause-seat : goal.join-requires-clause-seat
join-requires-clause-seat g c = c.requires.4.split.on_board

pub join-requires-clause-other : goal.join-requires-clause-other
join-requires-clause-other g c = c.requires.4.on_board

pub tell-requires-clause-over : goal.tell-requires-clause-over
tell-requires-clause-over g c =
    let r = c.requires in
    (r.0, r.1, c.args.played.own ∷ [], r.2, r.3, is_over r.0 c.args.board.now c.args.options.now.budget r.1 c.args.seat.now c.args.played r.4 c.join.new.seat.view c.join.ensures.view)

pub returns-clause-whole : goal.returns-clause-whole
returns-clause-whole g c =
    let r = c.requires in
    let d = c.args.played in
    ap (λ (s : SeatFacts). s.view.part) c.tell.ensures.same
    ∙ whole r.0 c.args.options.now.budget d.before r.1 c.join.new.seat.view (d.own ∷ []) d.room.ends.items d.room.logs.items (is_over r.0 c.args.board.now c.args.options.now.budget r.1 c.args.seat.now d r.4 c.join.new.seat.view c.join.ensures.view)

pub returns-clause-answer : goal.returns-clause-answer
returns-clause-answer g c = λ p was law share h.
    subst (λ (s : SeatFacts). IsPassEnd p was s.view c.tell.result) (sym c.tell.ensures.same)
    (c.tell.ensures.answer p was (c.args.played.own ∷ []) law share (is_over p c.args.board.now c.args.options.now.budget was c.args.seat.now c.args.played h c.join.new.seat.view c.join.ensures.view))

pub returns-clause-solved : goal.returns-clause-solved
returns-clause-solved g c = λ p was h costs all x has.
    subst (λ (s : SeatFacts). IsSolved p (best_known s.view) x) (sym c.tell.ensures.same)
    (all_solved p c.args.board.now c.args.options.now.budget was c.args.seat.now c.args.played h c.join.new.seat.view c.join.ensures.view costs all x has)
