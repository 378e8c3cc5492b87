use Rattle.std.proofs.Common.{◌-◌, refl}
use Rattle.best_ends.specs.declared.tally.BestTally.{BestTally}
use Rattle.best_over.proofs.Telling.{lost_letter, told, visits_more}
use Rattle.best_over.proofs.ending.tell.Goals as goal

pub overflow_sub-visited : goal.overflow_sub-visited
overflow_sub-visited g c =
    let r = c.requires.over in
    visits_more r.0 c.args.options.now.budget c.args.before r.1 c.args.seat.now r.2 c.args.ends.items c.args.logs.items c.args.lost r.4 c.visits_so_far.result c.visits_so_far.ensures.visits

pub answer-requires : goal.answer-requires
answer-requires g c =
    let r = c.requires.over in
    let t = c.totals-cause.result in
    let tally : BestTally = record { ends = c.args.ends; logs = c.args.logs; visited = c.visits_so_far.result - c.args.before } in (
      r.0,
      r.4.left.records,
      r.1,
      c.args.seat.now.view,
      r.3,
      told r.0 c.args.options.now.budget c.args.before r.1 c.args.seat.now r.2 c.args.ends.items c.args.logs.items c.args.lost r.4 c.visits_so_far.result c.visits_so_far.ensures.visits
          c.visits_so_far.new.seat c.visits_so_far.ensures.same t.drawn t.cause c.totals-cause.ensures.drawn c.totals-cause.ensures.cause t.best c.totals-cause.ensures.best c.if-lost.false tally refl refl refl,
    )

pub returns-then-lost-clause-answer : goal.returns-then-lost-clause-answer
returns-then-lost-clause-answer g c =
    let t = c.totals-cause.result in
    λ b was seats law over.
    lost_letter b c.args.options.now.budget c.args.before was c.args.seat.now seats c.args.ends.items c.args.logs.items c.args.lost over c.visits_so_far.result c.visits_so_far.ensures.visits
    c.visits_so_far.new.seat c.visits_so_far.ensures.same t.drawn t.cause c.totals-cause.ensures.drawn c.totals-cause.ensures.cause (c.visits_so_far.result - c.args.before) refl c.out_of_memory.result c.out_of_memory.ensures

pub returns-clause-answer : goal.returns-clause-answer
returns-clause-answer g c =
    let t = c.totals-cause.result in
    let tally : BestTally = record { ends = c.args.ends; logs = c.args.logs; visited = c.visits_so_far.result - c.args.before } in
    λ b was seats law over.
    c.answer.ensures b over.left.records was c.args.seat.now.view law
    (told b c.args.options.now.budget c.args.before was c.args.seat.now seats c.args.ends.items c.args.logs.items c.args.lost over c.visits_so_far.result c.visits_so_far.ensures.visits
    c.visits_so_far.new.seat c.visits_so_far.ensures.same t.drawn t.cause c.totals-cause.ensures.drawn c.totals-cause.ensures.cause t.best c.totals-cause.ensures.best c.if-lost.false tally refl refl refl)
