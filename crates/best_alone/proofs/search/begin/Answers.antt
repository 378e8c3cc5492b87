use Rattle.std.proofs.Common.{ap, ◌∙◌, arith}
use Rattle.best_ledger.specs.Searches.{pass_of, search_of}
use Rattle.best_over.proofs.Running.{is_before, no_memory}
use Rattle.board_words.specs.Seats.{SeatFacts}
use Rattle.board_words.specs.Steps.{after_split}
use Rattle.best_alone.proofs.Overs.{begins_act}
use Rattle.best_alone.proofs.search.begin.Goals as goal

pub split-own-requires-clause-part : goal.split-own-requires-clause-part
split-own-requires-clause-part g c =
    let may = c.requires.may in
    let whole = may.whole in
    let drawn = may.few_drawn in
    let same = ap (λ (s : SeatFacts). s.view.part) c.visits_so_far-before.ensures.same in
    let drew = ap (λ (s : SeatFacts). s.view.drawn) c.visits_so_far-before.ensures.same in
    (omega (arith, whole, same), omega (arith, whole, drawn, same, drew))

pub returns-clause-begun : goal.returns-clause-begun
returns-clause-begun g c = λ some.
    let may = c.requires.may in
    let o = c.args.options.now in
    let p = pass_of (search_of c.args.model.now o some) in
    let visits = c.visits_so_far-before in
    let same = visits.ensures.same in
    let st = c.in-Ok.ensures.shard some in
    record {
      split = record {
        alone = c.requires.one;
        inner = may.inner;
        before = is_before p c.args.board.now o.budget visits.result c.args.seat.now may.on_board may.limit may.whole may.options_fit.few_workers may.no_halt visits.ensures.visits visits.ensures.late visits.ensures.best;
        on_board = c.split-own.ensures.seats.0;
        split = c.split-own.ensures.old ∙ ap (λ (s : SeatFacts). after_split s.view) same;
      };
      acts = begins_act p c.args.board.now o.budget visits.new.seat.view c.in-Ok.made.shard c.split-own.result st.1 c.requires.one st.2 may.limit may.options_fit.small_budget
          (ap (λ (s : SeatFacts). s.view.limit) same ∙ may.on_board.2) c.split-own.ensures.seats.1 c.split-own.ensures.new;
      room = c.in-Ok.ensures.room;
    }

pub returns-in_default-clause-answer : goal.returns-in_default-clause-answer
returns-in_default-clause-answer g c = λ some.
    no_memory (search_of c.args.model.now c.args.options.now some) c.args.seat.now.view c.visits_so_far-before.new.seat.view c.out_of_memory.result c.out_of_memory.ensures (ap (λ (s : SeatFacts). s.view) c.visits_so_far-before.ensures.same)
    (c.visits_so_far-before.ensures.late c.requires.may.whole)
