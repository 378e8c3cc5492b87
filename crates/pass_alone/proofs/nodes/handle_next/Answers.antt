use Rattle.std.proofs.Common.{ℕ, ◌≤◌, Option, refl, sym, ap, subst, ◌∙◌, rules, Fits, w64, arith}
use Rattle.board_words.specs.Rules.{no_word, MayDraw}
use Rattle.shard_core.specs.Calls.{IsVisit}
use Rattle.shard_core.specs.Stands.{Stands}
use Rattle.shard_core.specs.declared.shard.Shard.{Shard}
use Rattle.shard_seats.proofs.Sitting.{drew}
use Rattle.pass_alone.specs.Alone.{EndsFrom}
use Rattle.pass_alone.proofs.Turns.{faults, loses, may, prunes, spends, visits, visits_news}
use Rattle.pass_alone.proofs.nodes.handle_next.Goals as goal

pub look-best-requires : goal.look-best-requires
look-best-requires g c = c.requires.2.on_board

pub draw-requires-clause-room : goal.draw-requires-clause-room
draw-requires-clause-room g c = subst MayDraw (sym c.look-best.ensures.view) (may c.requires.0 c.args.board.now c.args.budget c.args.shard.now c.args.seat.now c.requires.2)

pub prune_head-requires : goal.prune_head-requires
prune_head-requires g c = let a = c.requires.2.goes in (c.requires.0, a.shard_record, a.stands, c.requires.3)

pub returns-then-prune_head-clause-goes_on : goal.returns-then-prune_head-clause-goes_on
returns-then-prune_head-clause-goes_on g c = λ p suited a waits.
    prunes p c.args.board.now c.args.budget c.args.shard.now c.args.seat.now a c.prune_head.new.self c.prune_head.ensures.me c.look-best.result (c.if-prune_head.ensures.pruned p a.goes.shard_record suited a.goes.stands refl) c.look-best.ensures.best c.look-best.new.seat c.look-best.ensures.seat
    c.look-best.ensures.view

pub returns-then-draw-budget-clause-ends : goal.returns-then-draw-budget-clause-ends
returns-then-draw-budget-clause-ends g c = λ p _ a waits.
    let drawn = drew c.args.board.now c.args.seat.now c.look-best.new.seat c.draw.new.seat c.look-best.result c.draw.result c.look-best.ensures.view c.look-best.ensures.best c.draw.ensures.seat c.draw.ensures.view c.draw.ensures.before in
    subst (λ (shard : Shard g.row.L.Denot g.row.K.Denot). EndsFrom p c.args.board.now a.goes.shard_record c.halt.result shard c.halt.new.seat) (sym (c.if-prune_head.ensures.kept refl))
    (spends p c.args.board.now c.args.budget c.args.shard.now c.args.seat.now a waits c.look-best.result c.draw.result c.draw.new.seat drawn c.halt.new.seat c.halt.result c.if-draw-budget.true
    (record { ended = c.halt.ensures.ended; on_board = c.halt.ensures.seat; view = c.halt.ensures.view }))

pub visit-requires : goal.visit-requires
visit-requires g c =
    let a = c.requires.2.goes in
    (c.requires.0, a.shard_record, subst (λ (shard : Shard g.row.L.Denot g.row.K.Denot). Stands c.requires.0 shard a.shard_record) (sym (c.if-prune_head.ensures.kept refl)) a.stands, c.requires.3)

pub returns-in-Done-Some-clause-goes_on : goal.returns-in-Done-Some-clause-goes_on
returns-in-Done-Some-clause-goes_on g c = λ p suited a waits.
    let kept = c.if-prune_head.ensures.kept refl in
    let me = ap (λ (shard : Shard g.row.L.Denot g.row.K.Denot). shard.me) kept in
    let drawn = drew c.args.board.now c.args.seat.now c.look-best.new.seat c.draw.new.seat c.look-best.result c.draw.result c.look-best.ensures.view c.look-best.ensures.best c.draw.ensures.seat c.draw.ensures.view c.draw.ensures.before in
    let st = subst (λ (shard : Shard g.row.L.Denot g.row.K.Denot). Stands p shard a.goes.shard_record) (sym kept) a.goes.stands in
    let is = subst (λ (offer : Option ℕ). IsVisit p c.prune_head.new.self.me c.look-best.result a.goes.shard_record offer c.visit.new.self) c.in-Done-Some.offer-is (c.in-Done-Some.ensures.visited p a.goes.shard_record suited st waits) in
    let fits : Fits w64 c.in-Done-Some.word = search rules in
    let small : c.in-Done-Some.word ≤ no_word = omega arith in
    visits_news p c.args.board.now c.args.budget c.args.shard.now c.args.seat.now a c.visit.new.self (c.visit.ensures.me ∙ me) c.prune_head.new.self.me c.look-best.result c.draw.result c.in-Done-Some.word (me ∙ a.first) small is
    c.draw.new.seat drawn c.if-draw-budget.false c.offer_held.new.seat c.offer_held.ensures.seat c.offer_held.ensures.view c.offer_held.result c.offer_held.ensures.cost

pub returns-in-Done-None-clause-goes_on : goal.returns-in-Done-None-clause-goes_on
returns-in-Done-None-clause-goes_on g c = λ p suited a waits.
    let kept = c.if-prune_head.ensures.kept refl in
    let me = ap (λ (shard : Shard g.row.L.Denot g.row.K.Denot). shard.me) kept in
    let drawn = drew c.args.board.now c.args.seat.now c.look-best.new.seat c.draw.new.seat c.look-best.result c.draw.result c.look-best.ensures.view c.look-best.ensures.best c.draw.ensures.seat c.draw.ensures.view c.draw.ensures.before in
    let st = subst (λ (shard : Shard g.row.L.Denot g.row.K.Denot). Stands p shard a.goes.shard_record) (sym kept) a.goes.stands in
    let is = subst (λ (offer : Option ℕ). IsVisit p c.prune_head.new.self.me c.look-best.result a.goes.shard_record offer c.visit.new.self) c.in-Done-None.offer-is (c.in-Done-None.ensures.visited p a.goes.shard_record suited st waits) in
    visits p c.args.board.now c.args.budget c.args.shard.now c.args.seat.now a c.visit.new.self (c.visit.ensures.me ∙ me) c.prune_head.new.self.me c.look-best.result c.draw.result (me ∙ a.first) is
    c.draw.new.seat drawn c.if-draw-budget.false

pub returns-in-Fault-clause-ends : goal.returns-in-Fault-clause-ends
returns-in-Fault-clause-ends g c = λ p suited a waits.
    let kept = c.if-prune_head.ensures.kept refl in
    let me = ap (λ (shard : Shard g.row.L.Denot g.row.K.Denot). shard.me) kept in
    let drawn = drew c.args.board.now c.args.seat.now c.look-best.new.seat c.draw.new.seat c.look-best.result c.draw.result c.look-best.ensures.view c.look-best.ensures.best c.draw.ensures.seat c.draw.ensures.view c.draw.ensures.before in
    let st = subst (λ (shard : Shard g.row.L.Denot g.row.K.Denot). Stands p shard a.goes.shard_record) (sym kept) a.goes.stands in
    faults p c.args.board.now c.args.budget c.args.shard.now c.args.seat.now a waits c.look-best.result c.draw.result c.draw.new.seat drawn c.halt-in-Fault.new.seat c.halt-in-Fault.result c.visit.new.self (c.visit.ensures.me ∙ me)
    c.if-draw-budget.false c.prune_head.new.self.me (me ∙ a.first) c.in-Fault.field-0 (c.in-Fault.ensures.visited p a.goes.shard_record suited st waits) (record { ended = c.halt-in-Fault.ensures.ended; on_board = c.halt-in-Fault.ensures.seat; view = c.halt-in-Fault.ensures.view })

pub returns-in-Memory-clause-ends : goal.returns-in-Memory-clause-ends
returns-in-Memory-clause-ends g c = λ p suited a waits.
    let kept = c.if-prune_head.ensures.kept refl in
    let me = ap (λ (shard : Shard g.row.L.Denot g.row.K.Denot). shard.me) kept in
    let drawn = drew c.args.board.now c.args.seat.now c.look-best.new.seat c.draw.new.seat c.look-best.result c.draw.result c.look-best.ensures.view c.look-best.ensures.best c.draw.ensures.seat c.draw.ensures.view c.draw.ensures.before in
    let st = subst (λ (shard : Shard g.row.L.Denot g.row.K.Denot). Stands p shard a.goes.shard_record) (sym kept) a.goes.stands in
    loses p c.args.board.now c.args.budget c.args.shard.now c.args.seat.now a waits c.look-best.result c.draw.result c.draw.new.seat drawn c.halt-in-Memory.new.seat c.halt-in-Memory.result c.visit.new.self (c.visit.ensures.me ∙ me)
    c.if-draw-budget.false (c.in-Memory.ensures.visited p a.goes.shard_record suited st waits) (record { ended = c.halt-in-Memory.ensures.ended; on_board = c.halt-in-Memory.ensures.seat; view = c.halt-in-Memory.ensures.view })
