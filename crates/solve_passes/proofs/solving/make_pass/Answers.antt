use Rattle.solve_passes.proofs.Follows.{next_made}
use Rattle.solve_passes.proofs.solving.make_pass.Goals as goal

pub follow-requires : goal.follow-requires
follow-requires g c =
    let next =
    next_made c.args.model.now c.args.options.now c.args.board.now c.args.printing c.args.progress.now c.args.seat.now c.run_announced-made.new.seat (g.S.Sink.taken c.args.out.now) (g.S.Sink.taken c.run_announced-made.new.out) (g.S.Sink.faults c.args.out.now) (g.S.Sink.faults c.run_announced-made.new.out) c.run_announced-made.result
    c.requires.inner c.requires.options c.requires.ongoing c.run_announced-made.ensures.seat c.run_announced-made.ensures.whole c.run_announced-made.ensures.answer c.run_announced-made.ensures.refused c.cost_of-last.result c.cost_of-last.ensures c.run_announced-made.ensures.announced in
    (c.args.options.now, c.args.board.now, c.args.seat.now, c.run_announced-made.new.seat, g.S.Sink.taken c.args.out.now, g.S.Sink.faults c.args.out.now, next)

pub returns-clause-goes_on : goal.returns-clause-goes_on
returns-clause-goes_on g c =
    let next =
    next_made c.args.model.now c.args.options.now c.args.board.now c.args.printing c.args.progress.now c.args.seat.now c.run_announced-made.new.seat (g.S.Sink.taken c.args.out.now) (g.S.Sink.taken c.run_announced-made.new.out) (g.S.Sink.faults c.args.out.now) (g.S.Sink.faults c.run_announced-made.new.out) c.run_announced-made.result
    c.requires.inner c.requires.options c.requires.ongoing c.run_announced-made.ensures.seat c.run_announced-made.ensures.whole c.run_announced-made.ensures.answer c.run_announced-made.ensures.refused c.cost_of-last.result c.cost_of-last.ensures c.run_announced-made.ensures.announced in
    c.follow.ensures.goes_on c.args.options.now c.args.board.now c.args.seat.now c.run_announced-made.new.seat (g.S.Sink.taken c.args.out.now) (g.S.Sink.faults c.args.out.now) next

pub returns-clause-history : goal.returns-clause-history
returns-clause-history g c =
    let next =
    next_made c.args.model.now c.args.options.now c.args.board.now c.args.printing c.args.progress.now c.args.seat.now c.run_announced-made.new.seat (g.S.Sink.taken c.args.out.now) (g.S.Sink.taken c.run_announced-made.new.out) (g.S.Sink.faults c.args.out.now) (g.S.Sink.faults c.run_announced-made.new.out) c.run_announced-made.result
    c.requires.inner c.requires.options c.requires.ongoing c.run_announced-made.ensures.seat c.run_announced-made.ensures.whole c.run_announced-made.ensures.answer c.run_announced-made.ensures.refused c.cost_of-last.result c.cost_of-last.ensures c.run_announced-made.ensures.announced in
    c.follow.ensures.history c.args.options.now c.args.board.now c.args.seat.now c.run_announced-made.new.seat (g.S.Sink.taken c.args.out.now) (g.S.Sink.faults c.args.out.now) next

pub returns-clause-ends : goal.returns-clause-ends
returns-clause-ends g c =
    let next =
    next_made c.args.model.now c.args.options.now c.args.board.now c.args.printing c.args.progress.now c.args.seat.now c.run_announced-made.new.seat (g.S.Sink.taken c.args.out.now) (g.S.Sink.taken c.run_announced-made.new.out) (g.S.Sink.faults c.args.out.now) (g.S.Sink.faults c.run_announced-made.new.out) c.run_announced-made.result
    c.requires.inner c.requires.options c.requires.ongoing c.run_announced-made.ensures.seat c.run_announced-made.ensures.whole c.run_announced-made.ensures.answer c.run_announced-made.ensures.refused c.cost_of-last.result c.cost_of-last.ensures c.run_announced-made.ensures.announced in
    c.follow.ensures.ends c.args.options.now c.args.board.now c.args.seat.now c.run_announced-made.new.seat (g.S.Sink.taken c.args.out.now) (g.S.Sink.faults c.args.out.now) next

pub returns-clause-failed : goal.returns-clause-failed
returns-clause-failed g c =
    let next =
    next_made c.args.model.now c.args.options.now c.args.board.now c.args.printing c.args.progress.now c.args.seat.now c.run_announced-made.new.seat (g.S.Sink.taken c.args.out.now) (g.S.Sink.taken c.run_announced-made.new.out) (g.S.Sink.faults c.args.out.now) (g.S.Sink.faults c.run_announced-made.new.out) c.run_announced-made.result
    c.requires.inner c.requires.options c.requires.ongoing c.run_announced-made.ensures.seat c.run_announced-made.ensures.whole c.run_announced-made.ensures.answer c.run_announced-made.ensures.refused c.cost_of-last.result c.cost_of-last.ensures c.run_announced-made.ensures.announced in
    c.follow.ensures.failed c.args.options.now c.args.board.now c.args.seat.now c.run_announced-made.new.seat (g.S.Sink.taken c.args.out.now) (g.S.Sink.faults c.args.out.now) next

pub returns-clause-count : goal.returns-clause-count
returns-clause-count g c =
    let next =
    next_made c.args.model.now c.args.options.now c.args.board.now c.args.printing c.args.progress.now c.args.seat.now c.run_announced-made.new.seat (g.S.Sink.taken c.args.out.now) (g.S.Sink.taken c.run_announced-made.new.out) (g.S.Sink.faults c.args.out.now) (g.S.Sink.faults c.run_announced-made.new.out) c.run_announced-made.result
    c.requires.inner c.requires.options c.requires.ongoing c.run_announced-made.ensures.seat c.run_announced-made.ensures.whole c.run_announced-made.ensures.answer c.run_announced-made.ensures.refused c.cost_of-last.result c.cost_of-last.ensures c.run_announced-made.ensures.announced in
    c.follow.ensures.count c.args.options.now c.args.board.now c.args.seat.now c.run_announced-made.new.seat (g.S.Sink.taken c.args.out.now) (g.S.Sink.faults c.args.out.now) next
