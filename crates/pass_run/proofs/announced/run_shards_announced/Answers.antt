use Rattle.std.proofs.Common.{◌≡◌, Bool, rules, refl, sym, ap, subst}
use Rattle.board_words.specs.Seats.{SeatFacts}
use Rattle.pass_ends.specs.Passes.{pass_of}
use Rattle.pass_run.specs.Hearing.{costs_cried}
use Rattle.announcing.specs.Telling.{IsTold}
use Rattle.pass_run.specs.Announcements.{WasHeard}
use Rattle.pass_over.specs.Announcements.{EndsAnnounced}
use Rattle.pass_over.proofs.Looked.{ends_silent}
use Rattle.pass_run.proofs.announced.run_shards_announced.Goals as goal

pub returns-in_default-clause-answer : goal.returns-in_default-clause-answer
returns-in_default-clause-answer g c = λ some.
    let p = pass_of c.args.model.now c.args.options.now c.args.share some in
    let taken = g.S.Sink.taken c.args.out.now in
    let faults = g.S.Sink.faults c.args.out.now in
    subst (λ (s : SeatFacts). EndsAnnounced p c.args.seat.now.view s.view c.args.last taken taken faults faults c.silent.result) (sym c.not_begun.ensures.same)
    (ends_silent p c.args.seat.now.view c.args.seat.now.view c.args.last taken taken faults faults c.not_begun.result c.silent.result c.silent.ensures (c.not_begun.ensures.answer p c.requires.may.whole) c.not_begun.ensures.memory refl refl)

pub settle_pass-requires-clause-callers : goal.settle_pass-requires-clause-callers
settle_pass-requires-clause-callers g c = (c.in-Ok-hear_pass.ensures.answer c.requires.may.options_fit.some_workers).1.of_queue

pub returns-in-Ok-hear_pass-clause-answer : goal.returns-in-Ok-hear_pass-clause-answer
returns-in-Ok-hear_pass-clause-answer g c = λ some.
    let p = pass_of c.args.model.now c.args.options.now c.args.share some in
    let heard = c.in-Ok-hear_pass.heard in
    let known = c.in-Ok-hear_pass.ensures.answer some in
    let senders : c.in-Ok.queue.senders ≡ c.args.options.now.workers = search rules in
    let was : WasHeard p c.args.seat.now.view c.hear_pass.new.seat.view c.in-Ok.queue heard = record { ended = known.0; callers = known.1; senders = senders; known = c.in-Ok-hear_pass.ensures.crier.2 } in
    let told = subst (λ (b : Bool). IsTold b c.args.last (costs_cried heard.crier.taken) (g.S.Sink.taken c.args.out.now) (g.S.Sink.taken c.hear_pass.new.out) (g.S.Sink.faults c.args.out.now) (g.S.Sink.faults c.hear_pass.new.out) heard.told) (sym c.minimize.ensures) c.in-Ok-hear_pass.ensures.told in
    c.settle_pass.ensures p c.args.seat.now.view c.hear_pass.new.seat.view c.args.last (g.S.Sink.taken c.args.out.now) (g.S.Sink.faults c.args.out.now) was c.minimize.ensures told

pub returns-in-Err-clause-answer : goal.returns-in-Err-clause-answer
returns-in-Err-clause-answer g c = λ some.
    let p = pass_of c.args.model.now c.args.options.now c.args.share some in
    let quiet = c.in-Err.ensures.silent in
    ends_silent p c.args.seat.now.view c.hear_pass.new.seat.view c.args.last (g.S.Sink.taken c.args.out.now) (g.S.Sink.taken c.hear_pass.new.out) (g.S.Sink.faults c.args.out.now) (g.S.Sink.faults c.hear_pass.new.out) c.in-Err.end c.silent-in-Err.result c.silent-in-Err.ensures
    (c.in-Err.ensures.begun some) quiet.0 (ap g.S.Sink.taken quiet.1) (ap g.S.Sink.faults quiet.1)
