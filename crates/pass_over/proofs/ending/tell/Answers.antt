use Rattle.std.proofs.Common.{◌-◌, refl}
use Rattle.pass_ends.specs.declared.tally.Tally.{Tally}
use Rattle.pass_over.proofs.Telling.{told, visits_more}
use Rattle.pass_over.proofs.ending.tell.Goals as goal

pub overflow_sub-visited : goal.overflow_sub-visited
overflow_sub-visited g c =
    let r = c.requires.over in
    visits_more r.0 c.args.options.now.budget c.args.before r.1 c.args.seat.now r.2 c.args.ends.items c.args.logs.items r.5 c.visits_so_far.result c.visits_so_far.ensures.visits

pub answer-requires : goal.answer-requires
answer-requires g c =
    let r = c.requires.over in
    let t = c.totals.result in
    let tally : Tally = record { ends = c.args.ends; logs = c.args.logs; visited = c.visits_so_far.result - c.args.before; share = c.args.share } in (
      r.0,
      r.5.left.records,
      r.1,
      c.args.seat.now.view,
      r.3,
      told r.0 c.args.options.now.budget c.args.before r.1 c.args.seat.now r.2 c.args.ends.items c.args.logs.items r.5 c.visits_so_far.result c.visits_so_far.ensures.visits
          c.visits_so_far.new.seat c.visits_so_far.ensures.same t.best t.drawn t.cause c.totals.ensures.best c.totals.ensures.drawn c.totals.ensures.cause tally refl refl r.4 refl,
    )

pub returns-clause-answer : goal.returns-clause-answer
returns-clause-answer g c =
    let t = c.totals.result in
    let tally : Tally = record { ends = c.args.ends; logs = c.args.logs; visited = c.visits_so_far.result - c.args.before; share = c.args.share } in
    λ p was seats law share over.
    c.answer.ensures p over.left.records was c.args.seat.now.view law
    (told p c.args.options.now.budget c.args.before was c.args.seat.now seats c.args.ends.items c.args.logs.items over c.visits_so_far.result c.visits_so_far.ensures.visits
    c.visits_so_far.new.seat c.visits_so_far.ensures.same t.best t.drawn t.cause c.totals.ensures.best c.totals.ensures.drawn c.totals.ensures.cause tally refl refl share refl)
