use Rattle.std.proofs.Common.{sym, subst, ◌∙◌}
use Rattle.std.specs.Prelude.{IfSome}
use Rattle.board_words.specs.Steps.{best_known}
use Rattle.pass_ends.specs.Ends.{IsPassEnd}
use Rattle.pass_ends.specs.Passes.{pass_of}
use Rattle.pass_over.specs.Announcements.{HasRefused}
use Rattle.solve_passes.proofs.Announces.{made_aloud, made_quiet}
use Rattle.solve_passes.proofs.alone.run_alone.Goals as goal
use Rattle.solve_passes.specs.Announcing.{IsMade}
use Rattle.solve_passes.specs.declared.made.Made.{Made}

pub returns-then-announces-clause-answer : goal.returns-then-announces-clause-answer
returns-then-announces-clause-answer g c = λ some.
    subst (λ (m : Made). IsPassEnd (pass_of c.args.model.now c.args.options.now c.args.share some) c.args.seat.now.view c.run_pass_alone_announced-ended.new.seat.view m.end) (sym c.made_by.ensures.made) (c.run_pass_alone_announced-ended.ensures.answer some)

pub returns-then-announces-clause-announced : goal.returns-then-announces-clause-announced
returns-then-announces-clause-announced g c =
    let ended = c.run_pass_alone_announced-ended in
    subst (IsMade c.args.model.now c.args.printing c.args.last (best_known c.args.seat.now.view) (best_known ended.new.seat.view) (g.S.Sink.taken c.args.out.now) (g.S.Sink.taken ended.new.out) (g.S.Sink.faults c.args.out.now) (g.S.Sink.faults ended.new.out)) (sym c.made_by.ensures.made)
    (made_aloud c.args.model.now c.args.printing c.args.last (best_known c.args.seat.now.view) (best_known ended.new.seat.view) (g.S.Sink.taken c.args.out.now) (g.S.Sink.taken ended.new.out) (g.S.Sink.faults c.args.out.now) (g.S.Sink.faults ended.new.out) ended.result
    (sym c.announces.ensures ∙ c.if-announces.true) c.made_by.ensures.words ended.ensures.announced ended.ensures.last)

pub returns-clause-answer : goal.returns-clause-answer
returns-clause-answer g c = λ some.
    subst (λ (m : Made). IsPassEnd (pass_of c.args.model.now c.args.options.now c.args.share some) c.args.seat.now.view c.run_pass_alone-end.new.seat.view m.end) (sym c.made_silently.ensures) (c.run_pass_alone-end.ensures.answer some)

pub returns-clause-announced : goal.returns-clause-announced
returns-clause-announced g c =
    let end = c.run_pass_alone-end in
    subst (IsMade c.args.model.now c.args.printing c.args.last (best_known c.args.seat.now.view) (best_known end.new.seat.view) (g.S.Sink.taken c.args.out.now) (g.S.Sink.taken c.args.out.now) (g.S.Sink.faults c.args.out.now) (g.S.Sink.faults c.args.out.now)) (sym c.made_silently.ensures)
    (made_quiet c.args.model.now c.args.printing c.args.last (best_known c.args.seat.now.view) (best_known end.new.seat.view) (g.S.Sink.taken c.args.out.now) (g.S.Sink.faults c.args.out.now) end.result (sym c.announces.ensures ∙ c.if-announces.false))

pub returns-then-announces-clause-refused : goal.returns-then-announces-clause-refused
returns-then-announces-clause-refused g c = λ some.
    subst (λ (m : Made). IfSome m.counts (λ x. HasRefused (pass_of c.args.model.now c.args.options.now c.args.share some) x.refused)) (sym c.made_by.ensures.made) (c.run_pass_alone_announced-ended.ensures.refused some)

pub returns-clause-refused : goal.returns-clause-refused
returns-clause-refused g c = λ some.
    subst (λ (m : Made). IfSome m.counts (λ x. HasRefused (pass_of c.args.model.now c.args.options.now c.args.share some) x.refused)) (sym c.made_silently.ensures) tt
