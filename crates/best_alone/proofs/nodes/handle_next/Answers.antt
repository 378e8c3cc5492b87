use Rattle.std.proofs.Common.{ℕ, ◌≤◌, Option, refl, sym, subst, ◌∙◌, rules, Fits, w64, arith}
use Rattle.board_words.specs.Rules.{no_word, MayDraw}
use Rattle.best_shard.specs.Calls.{IsVisit}
use Rattle.shard_seats.proofs.Sitting.{drew}
use Rattle.best_alone.proofs.Turns.{faults, loses, may, prunes, spends, still, visits, visits_news}
use Rattle.best_alone.proofs.nodes.handle_next.Goals as goal

pub look-best-requires : goal.look-best-requires
look-best-requires g c = c.requires.2.on_board

pub draw-requires-clause-room : goal.draw-requires-clause-room
draw-requires-clause-room g c = subst MayDraw (sym c.look-best.ensures.view) (may c.requires.0 c.args.board.now c.args.budget c.args.shard.now c.args.seat.now c.requires.2)

pub prunes-requires : goal.prunes-requires
prunes-requires g c =
    let a = c.requires.2 in
    (c.requires.0, a.shard_record, c.in-Some.ensures.picked c.requires.0 a.shard_record a.stands)

pub visit-requires : goal.visit-requires
visit-requires g c =
    let a = c.requires.2 in
    (c.requires.0, a.shard_record, c.in-Some.ensures.picked c.requires.0 a.shard_record a.stands)

pub returns-in_default-clause-goes_on : goal.returns-in_default-clause-goes_on
returns-in_default-clause-goes_on g c = λ p _ a.
    let none = c.in_default.ensures.none p a.shard_record a.stands in
    still p c.args.board.now c.args.budget c.args.shard.now c.args.seat.now a c.pick.new.self none.1

pub returns-then-prunes-clause-goes_on : goal.returns-then-prunes-clause-goes_on
returns-then-prunes-clause-goes_on g c = λ p suited a.
    let h = c.in-Some.ensures.picked p a.shard_record a.stands in
    prunes p c.args.board.now c.args.budget c.args.shard.now c.args.seat.now a c.drop_picked.new.self c.in-Some.node c.look-best.result
    (c.drop_picked.ensures.pruned p a.shard_record c.look-best.result h ((c.if-prunes.ensures p a.shard_record suited h).0 refl)) c.look-best.ensures.best c.look-best.new.seat c.look-best.ensures.seat c.look-best.ensures.view

pub returns-then-draw-budget-clause-ends : goal.returns-then-draw-budget-clause-ends
returns-then-draw-budget-clause-ends g c = λ p _ a.
    let me = c.pick.ensures.me in
    let h = c.in-Some.ensures.picked p a.shard_record a.stands in
    let drawn = drew c.args.board.now c.args.seat.now c.look-best.new.seat c.draw.new.seat c.look-best.result c.draw.result c.look-best.ensures.view c.look-best.ensures.best c.draw.ensures.seat c.draw.ensures.view c.draw.ensures.before in
    spends p c.args.board.now c.args.budget c.args.shard.now c.args.seat.now a c.pick.new.self c.in-Some.node h c.look-best.result c.draw.result c.draw.new.seat drawn c.halt.new.seat c.halt.result me c.if-draw-budget.true
    (record { ended = c.halt.ensures.ended; on_board = c.halt.ensures.seat; view = c.halt.ensures.view })

pub returns-in-Done-Some-clause-goes_on : goal.returns-in-Done-Some-clause-goes_on
returns-in-Done-Some-clause-goes_on g c = λ p suited a.
    let h = c.in-Some.ensures.picked p a.shard_record a.stands in
    let drawn = drew c.args.board.now c.args.seat.now c.look-best.new.seat c.draw.new.seat c.look-best.result c.draw.result c.look-best.ensures.view c.look-best.ensures.best c.draw.ensures.seat c.draw.ensures.view c.draw.ensures.before in
    let is = subst (λ (offer : Option ℕ). IsVisit p c.pick.new.self.me c.look-best.result a.shard_record c.in-Some.node offer c.visit.new.self) c.in-Done-Some.offer-is (c.in-Done-Some.ensures.visited p a.shard_record suited h) in
    let fits : Fits w64 c.in-Done-Some.word = search rules in
    let small : c.in-Done-Some.word ≤ no_word = omega arith in
    visits_news p c.args.board.now c.args.budget c.args.shard.now c.args.seat.now a c.visit.new.self c.in-Some.node c.pick.new.self.me c.look-best.result c.draw.result c.in-Done-Some.word small is
    c.draw.new.seat drawn c.if-draw-budget.false c.offer.new.seat c.offer.ensures.seat c.offer.ensures.view

pub returns-in-Done-None-clause-goes_on : goal.returns-in-Done-None-clause-goes_on
returns-in-Done-None-clause-goes_on g c = λ p suited a.
    let h = c.in-Some.ensures.picked p a.shard_record a.stands in
    let drawn = drew c.args.board.now c.args.seat.now c.look-best.new.seat c.draw.new.seat c.look-best.result c.draw.result c.look-best.ensures.view c.look-best.ensures.best c.draw.ensures.seat c.draw.ensures.view c.draw.ensures.before in
    let is = subst (λ (offer : Option ℕ). IsVisit p c.pick.new.self.me c.look-best.result a.shard_record c.in-Some.node offer c.visit.new.self) c.in-Done-None.offer-is (c.in-Done-None.ensures.visited p a.shard_record suited h) in
    visits p c.args.board.now c.args.budget c.args.shard.now c.args.seat.now a c.visit.new.self c.in-Some.node c.pick.new.self.me c.look-best.result c.draw.result is c.draw.new.seat drawn c.if-draw-budget.false

pub returns-in-Fault-clause-ends : goal.returns-in-Fault-clause-ends
returns-in-Fault-clause-ends g c = λ p suited a.
    let me = c.visit.ensures.me ∙ c.pick.ensures.me in
    let h = c.in-Some.ensures.picked p a.shard_record a.stands in
    let drawn = drew c.args.board.now c.args.seat.now c.look-best.new.seat c.draw.new.seat c.look-best.result c.draw.result c.look-best.ensures.view c.look-best.ensures.best c.draw.ensures.seat c.draw.ensures.view c.draw.ensures.before in
    faults p c.args.board.now c.args.budget c.args.shard.now c.args.seat.now a c.pick.new.self c.in-Some.node h c.look-best.result c.draw.result c.draw.new.seat drawn c.halt-in-Fault.new.seat c.halt-in-Fault.result c.visit.new.self me c.if-draw-budget.false
    c.pick.new.self.me c.in-Fault.field-0 (c.in-Fault.ensures.visited p a.shard_record suited h) (record { ended = c.halt-in-Fault.ensures.ended; on_board = c.halt-in-Fault.ensures.seat; view = c.halt-in-Fault.ensures.view })

pub returns-in-Memory-clause-ends : goal.returns-in-Memory-clause-ends
returns-in-Memory-clause-ends g c = λ p suited a.
    let me = c.visit.ensures.me ∙ c.pick.ensures.me in
    let h = c.in-Some.ensures.picked p a.shard_record a.stands in
    let drawn = drew c.args.board.now c.args.seat.now c.look-best.new.seat c.draw.new.seat c.look-best.result c.draw.result c.look-best.ensures.view c.look-best.ensures.best c.draw.ensures.seat c.draw.ensures.view c.draw.ensures.before in
    loses p c.args.board.now c.args.budget c.args.shard.now c.args.seat.now a c.pick.new.self c.in-Some.node h c.look-best.result c.draw.result c.draw.new.seat drawn c.halt-in-Memory.new.seat c.halt-in-Memory.result c.visit.new.self me c.if-draw-budget.false
    (c.in-Memory.ensures.visited p a.shard_record suited h) (record { ended = c.halt-in-Memory.ensures.ended; on_board = c.halt-in-Memory.ensures.seat; view = c.halt-in-Memory.ensures.view })
