use Rattle.std.proofs.Common.{sym, ap, subst, ◌∙◌}
use Rattle.board_words.specs.Seats.{SeatFacts}
use Rattle.board_words.specs.Steps.{best_known}
use Rattle.pass_ends.specs.Ends.{IsPassEnd}
use Rattle.pass_run.specs.Crews.{seats_of}
use Rattle.pass_run.proofs.Running.{is_over}
use Rattle.pass_run.specs.Callers.{AreLastCallers}
use Rattle.pass_run.proofs.Callers.{last_callers}
use Rattle.pass_over.proofs.Telling.{is_best, whole}
use Rattle.pass_run.proofs.stages.end_pass.Goals as goal

pub gather-ends-requires-clause-seat : goal.gather-ends-requires-clause-seat
gather-ends-requires-clause-seat g c = c.requires.begun.4.on_board

pub gather-ends-requires-clause-keep : goal.gather-ends-requires-clause-keep
gather-ends-requires-clause-keep g c = let r = c.requires.begun in (r.0, r.4.keep, r.4.room_for)

pub tell-end-requires-clause-over : goal.tell-end-requires-clause-over
tell-end-requires-clause-over g c =
    let r = c.requires.begun in
    let b = c.args.begun in
    let left = c.gather-ends in
    let over = is_over r.0 c.args.board.now c.args.options.now.budget b.before r.1 c.args.seat.now b.shards.items b.boxes b.room r.4 left.new.seat.view left.result.ends.items left.result.logs.items left.ensures.view (left.ensures.left r.0 r.4.keep).0 in
    (r.0, r.1, seats_of b.shards.items, r.2, r.3, over)

pub returns-clause-whole : goal.returns-clause-whole
returns-clause-whole g c =
    let r = c.requires.begun in
    let b = c.args.begun in
    let left = c.gather-ends in
    let over = is_over r.0 c.args.board.now c.args.options.now.budget b.before r.1 c.args.seat.now b.shards.items b.boxes b.room r.4 left.new.seat.view left.result.ends.items left.result.logs.items left.ensures.view (left.ensures.left r.0 r.4.keep).0 in
    ap (λ (s : SeatFacts). s.view.part) c.tell-end.ensures.same ∙ whole r.0 c.args.options.now.budget b.before r.1 left.new.seat.view (seats_of b.shards.items) left.result.ends.items left.result.logs.items over

pub returns-clause-answer : goal.returns-clause-answer
returns-clause-answer g c = λ p was law share begun.
    let b = c.args.begun in
    let left = c.gather-ends in
    let over = is_over p c.args.board.now c.args.options.now.budget b.before was c.args.seat.now b.shards.items b.boxes b.room begun left.new.seat.view left.result.ends.items left.result.logs.items left.ensures.view (left.ensures.left p begun.keep).0 in
    subst (λ (s : SeatFacts). IsPassEnd p was s.view c.tell-end.result) (sym c.tell-end.ensures.same) (c.tell-end.ensures.answer p was (seats_of b.shards.items) law share over)

pub returns-clause-called : goal.returns-clause-called
returns-clause-called g c = λ p was queue begun call.
    let b = c.args.begun in
    let left = c.gather-ends in
    let made = left.ensures.left p begun.keep in
    let over = is_over p c.args.board.now c.args.options.now.budget b.before was c.args.seat.now b.shards.items b.boxes b.room begun left.new.seat.view left.result.ends.items left.result.logs.items left.ensures.view made.0 in
    subst (λ (s : SeatFacts). AreLastCallers p (best_known was) (best_known s.view) queue left.result.callers.items) (sym c.tell-end.ensures.same)
    (subst (AreLastCallers p (best_known was) (best_known left.new.seat.view) queue) (sym left.ensures.callers)
    (last_callers p queue b.shards.items made.0.records call made.1 (best_known was) (best_known left.new.seat.view) made.0.together
    (is_best p c.args.options.now.budget b.before was left.new.seat.view (seats_of b.shards.items) left.result.ends.items left.result.logs.items over) begun.keep.long))
