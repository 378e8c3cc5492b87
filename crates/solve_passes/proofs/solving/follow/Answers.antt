use Rattle.std.proofs.Common.{arith, ap}
use Rattle.solve_passes.proofs.Announces.{rose_after}
use Rattle.solve_passes.proofs.Counting.{pow_small}
use Rattle.solve_passes.proofs.Follows.{calls_of}
use Rattle.solve_passes.proofs.Going.{best_word, concludes, fails, floor_word, goes_on, history, led_on, within}
use Rattle.solve_passes.proofs.solving.follow.Goals as goal
use Rattle.solve_passes.specs.declared.progress.Tally.{Tally}

pub after_pass-requires-clause-fits : goal.after_pass-requires-clause-fits
after_pass-requires-clause-fits g c =
    let r = c.requires in
    let options = r.0 in
    let board = r.1 in
    let was = r.2 in
    let now = r.3 in
    let n = r.6 in
    let fit = within c.args.model.now options c.args.gap board c.args.progress.now was now n.options_fit.some_workers n.inner n.ongoing n.on_board
    n.whole n.announced.announced c.args.made.end (n.answer n.options_fit.some_workers) in
    omega (arith, n.options_fit.small_budget, fit, ap (λ (t : Tally). t.visited) c.parts_of-tally.ensures.tally)

pub after_pass-requires-clause-share : goal.after_pass-requires-clause-share
after_pass-requires-clause-share g c = let n = c.requires.6 in omega (arith, n.ongoing.share, pow_small c.args.progress.now.passes n.ongoing.few_passes)

pub after_pass-requires-clause-held : goal.after_pass-requires-clause-held
after_pass-requires-clause-held g c = let n = c.requires.6 in n.ongoing.has_word

pub after_pass-requires-clause-bound : goal.after_pass-requires-clause-bound
after_pass-requires-clause-bound g c = let n = c.requires.6 in n.ongoing.wide_bound

pub after_pass-requires-clause-best : goal.after_pass-requires-clause-best
after_pass-requires-clause-best g c =
    let r = c.requires in
    let options = r.0 in
    let board = r.1 in
    let was = r.2 in
    let now = r.3 in
    let n = r.6 in
    best_word c.args.model.now options c.args.gap board c.args.progress.now was now n.options_fit.some_workers n.inner n.ongoing n.on_board
    n.whole n.announced.announced c.args.made.end c.parts_of-tally.result.0 (n.answer n.options_fit.some_workers) c.parts_of-tally.ensures.tally

pub after_pass-requires-clause-floor : goal.after_pass-requires-clause-floor
after_pass-requires-clause-floor g c =
    let r = c.requires in
    let options = r.0 in
    let board = r.1 in
    let was = r.2 in
    let now = r.3 in
    let n = r.6 in
    floor_word c.args.model.now options c.args.gap board c.args.progress.now was now n.options_fit.some_workers n.inner n.ongoing n.on_board
    n.whole n.announced.announced c.args.made.end c.parts_of-tally.result.0 (n.answer n.options_fit.some_workers) c.parts_of-tally.ensures.tally

-- ---- a write of an announced cost failed

pub returns-then-failed-clause-ends : goal.returns-then-failed-clause-ends
returns-then-failed-clause-ends g c = λ options board was now text faults n before h.
    let is = n.announced in
    let may = is.may in
    let refused = calls_of c.args.model.now options board c.args.printing c.args.progress.now was now text (g.S.Sink.taken c.args.out.now) faults (g.S.Sink.faults c.args.out.now) c.args.made n in
    fails c.args.model.now options c.args.gap board c.args.progress.now was now n.options_fit.some_workers n.inner n.ongoing n.on_board n.whole is.announced
    c.args.printing text (g.S.Sink.taken c.args.out.now) c.args.made.end (n.answer n.options_fit.some_workers) may refused (is.stopped c.if-failed.true).0 before h

pub returns-then-failed-clause-failed : goal.returns-then-failed-clause-failed
returns-then-failed-clause-failed g c = λ options board was now text faults n _. (n.announced.stopped c.if-failed.true).1

pub returns-then-failed-clause-count : goal.returns-then-failed-clause-count
returns-then-failed-clause-count g c = λ options board was now text faults n. n.announced.count

-- ---- the pass was printed

pub returns-clause-failed : goal.returns-clause-failed
returns-clause-failed g c = λ options board was now text faults n fault.
    rose_after faults (g.S.Sink.faults c.args.out.now) (g.S.Sink.faults c.after_pass.new.out) n.announced.count (c.after_pass.ensures.failed fault)

pub returns-clause-count : goal.returns-clause-count
returns-clause-count g c = λ options board was now text faults n. omega (arith, n.announced.count, c.after_pass.ensures.count)

pub returns-clause-goes_on : goal.returns-clause-goes_on
returns-clause-goes_on g c = λ options board was now text faults n.
    let is = n.announced in
    let wrote = is.written c.if-failed.false in
    let may = is.may in
    let follows = led_on c.args.model.now options c.args.gap board c.args.progress.now was now n.options_fit.some_workers n.inner n.ongoing n.on_board n.whole is.announced
    c.args.printing c.args.made.counts text (g.S.Sink.taken c.args.out.now) (g.S.Sink.taken c.after_pass.new.out) c.after_pass.new.progress c.parts_of-tally.result.0 c.parts_of-tally.result.1 c.after_pass.result may wrote.1 wrote.0 c.after_pass.ensures.followed c.parts_of-tally.ensures.few in
    goes_on c.args.model.now options c.args.gap board c.args.progress.now was now n.options_fit.some_workers n.inner n.ongoing n.on_board
    n.whole is.announced c.args.printing text (g.S.Sink.taken c.after_pass.new.out) c.after_pass.new.progress c.args.made.end c.parts_of-tally.result.0 c.parts_of-tally.result.1 c.after_pass.result
    (n.answer n.options_fit.some_workers) c.parts_of-tally.ensures.tally c.parts_of-tally.ensures.halt follows

pub returns-clause-history : goal.returns-clause-history
returns-clause-history g c = λ options board was now text faults n.
    let is = n.announced in
    let wrote = is.written c.if-failed.false in
    let may = is.may in
    let last = is.last_word c.if-failed.false in
    let refused = calls_of c.args.model.now options board c.args.printing c.args.progress.now was now text (g.S.Sink.taken c.args.out.now) faults (g.S.Sink.faults c.args.out.now) c.args.made n in
    let follows = led_on c.args.model.now options c.args.gap board c.args.progress.now was now n.options_fit.some_workers n.inner n.ongoing n.on_board n.whole is.announced
    c.args.printing c.args.made.counts text (g.S.Sink.taken c.args.out.now) (g.S.Sink.taken c.after_pass.new.out) c.after_pass.new.progress c.parts_of-tally.result.0 c.parts_of-tally.result.1 c.after_pass.result may wrote.1 wrote.0 c.after_pass.ensures.followed c.parts_of-tally.ensures.few in
    history c.args.model.now options c.args.gap board c.args.progress.now was now n.options_fit.some_workers n.inner n.ongoing n.on_board
    n.whole is.announced c.args.printing text (g.S.Sink.taken c.after_pass.new.out) c.after_pass.new.progress c.args.made.end c.parts_of-tally.result.0 c.parts_of-tally.result.1 c.after_pass.result
    (n.answer n.options_fit.some_workers) (may, last, refused) c.parts_of-tally.ensures.tally c.parts_of-tally.ensures.halt follows

pub returns-clause-ends : goal.returns-clause-ends
returns-clause-ends g c = λ options board was now text faults n.
    let is = n.announced in
    let wrote = is.written c.if-failed.false in
    let may = is.may in
    let last = is.last_word c.if-failed.false in
    let refused = calls_of c.args.model.now options board c.args.printing c.args.progress.now was now text (g.S.Sink.taken c.args.out.now) faults (g.S.Sink.faults c.args.out.now) c.args.made n in
    let follows = led_on c.args.model.now options c.args.gap board c.args.progress.now was now n.options_fit.some_workers n.inner n.ongoing n.on_board n.whole is.announced
    c.args.printing c.args.made.counts text (g.S.Sink.taken c.args.out.now) (g.S.Sink.taken c.after_pass.new.out) c.after_pass.new.progress c.parts_of-tally.result.0 c.parts_of-tally.result.1 c.after_pass.result may wrote.1 wrote.0 c.after_pass.ensures.followed c.parts_of-tally.ensures.few in
    concludes c.args.model.now options c.args.gap board c.args.progress.now was now n.options_fit.some_workers n.inner n.ongoing n.on_board
    n.whole is.announced c.args.printing text (g.S.Sink.taken c.after_pass.new.out) c.after_pass.new.progress c.args.made.end c.parts_of-tally.result.0 c.parts_of-tally.result.1 c.after_pass.result
    (n.answer n.options_fit.some_workers) (may, last, refused) c.parts_of-tally.ensures.tally c.parts_of-tally.ensures.halt follows
