use Rattle.std.proofs.Common.{ap, subst, ◌∙◌, arith}
use Rattle.board_words.specs.Seats.{SeatFacts}
use Rattle.shard_threads.specs.Seats.{AreSeated}
use Rattle.joined_seats.specs.Joined.{with_less}
use Rattle.best_ledger.specs.Searches.{pass_of, search_of}
use Rattle.best_first.proofs.Fresh.{all_begin}
use Rattle.best_over.proofs.Running.{is_before, no_memory}
use Rattle.best_first.proofs.stages.begin_search.Goals as goal

pub seat_all-requires-clause-parts : goal.seat_all-requires-clause-parts
seat_all-requires-clause-parts g c =
    let may = c.requires.may in
    let long = (c.in-Ok.ensures.turners may.options_fit.some_workers).long in
    let few = may.options_fit.few_workers in
    let whole = may.whole in
    let same = ap (λ (s : SeatFacts). s.view.part) c.visits_so_far-before.ensures.same in
    omega (arith, long, few, whole, same)

pub seat_all-requires-clause-drawn : goal.seat_all-requires-clause-drawn
seat_all-requires-clause-drawn g c =
    let may = c.requires.may in
    let long = (c.in-Ok.ensures.turners may.options_fit.some_workers).long in
    let few = may.options_fit.few_workers in
    let whole = may.whole in
    let drawn = may.few_drawn in
    let same = ap (λ (s : SeatFacts). s.view.part) c.visits_so_far-before.ensures.same in
    let drew = ap (λ (s : SeatFacts). s.view.drawn) c.visits_so_far-before.ensures.same in
    omega (arith, long, few, whole, drawn, same, drew)

pub returns-clause-begun : goal.returns-clause-begun
returns-clause-begun g c = λ some.
    let p = pass_of (search_of c.args.model.now c.args.options.now some) in
    let o = c.args.options.now in
    let may = c.requires.may in
    let visits = c.visits_so_far-before in
    let same = visits.ensures.same in
    let turners = c.in-Ok.crew.turners.items in
    let boxes = c.in-Ok.crew.boxes.boxes.items in
    let shards = c.in-Ok-seat_all.shards.items in
    let fresh = c.in-Ok.ensures.turners some in
    record {
      inner = may.inner;
      before = is_before p c.args.board.now o.budget visits.result c.args.seat.now may.on_board may.limit may.whole may.options_fit.few_workers may.no_halt visits.ensures.visits visits.ensures.late visits.ensures.best;
      on_board = c.seat_all.ensures.seat;
      split = c.in-Ok-seat_all.ensures.left ∙ (ap (with_less visits.new.seat.view) fresh.long ∙ ap (λ (s : SeatFacts). with_less s.view p.shards) same);
      keep = all_begin p c.args.board.now boxes o.budget c.args.seat.now.view c.in-Ok.ensures.boxes may.limit may.options_fit.small_budget may.on_board.2 turners shards fresh
          (subst (λ (s : SeatFacts). AreSeated c.args.board.now s.view turners shards) same c.in-Ok-seat_all.ensures.seated);
      room_for = c.in-Ok.ensures.room;
    }

pub returns-in_default-clause-answer : goal.returns-in_default-clause-answer
returns-in_default-clause-answer g c = λ some.
    no_memory (search_of c.args.model.now c.args.options.now some) c.args.seat.now.view c.visits_so_far-before.new.seat.view c.out_of_memory.result c.out_of_memory.ensures (ap (λ (s : SeatFacts). s.view) c.visits_so_far-before.ensures.same)
    (c.visits_so_far-before.ensures.late c.requires.may.whole)

pub returns-in_default-seat_all-clause-answer : goal.returns-in_default-seat_all-clause-answer
returns-in_default-seat_all-clause-answer g c = λ some.
    no_memory (search_of c.args.model.now c.args.options.now some) c.args.seat.now.view c.seat_all.new.seat.view c.out_of_memory-in_default-seat_all.result c.out_of_memory-in_default-seat_all.ensures
    (c.in_default-seat_all.ensures.same ∙ ap (λ (s : SeatFacts). s.view) c.visits_so_far-before.ensures.same) (c.visits_so_far-before.ensures.late c.requires.may.whole)
