use Rattle.std.proofs.Common.{ℕ, ◌≤◌, Option, refl, sym, ap, subst, ◌∙◌, rules, Fits, w64, arith}
use Rattle.board_words.specs.Rules.{no_word}
use Rattle.shard_core.specs.Calls.{IsVisit}
use Rattle.shard_core.specs.Stands.{Stands}
use Rattle.shard_core.specs.declared.shard.Shard.{Shard}
use Rattle.shard_turns.proofs.Acting.{none_waits_here, not_true, prunes, visits, visits_news, calls_may, spends, loses, faults}
use Rattle.shard_seats.proofs.Sitting.{drew}
use Rattle.shard_turns.specs.Turners.{Leaves}
use Rattle.shard_turns.proofs.Called.{same_queue}
use Rattle.shard_turns.proofs.turner.Turner.visit.Goals as goal

pub offer_held-requires-clause-call : goal.offer_held-requires-clause-call
offer_held-requires-clause-call g c = calls_may c.requires.0 c.args.board.now c.args.boxes.now.items c.args.self.now c.args.seat.now c.requires.2

pub returns-in-Done-Some-clause-queue : goal.returns-in-Done-Some-clause-queue
returns-in-Done-Some-clause-queue g c = same_queue c.visit.new.self.held c.args.self.now.calling c.offer_held.new.calling c.offer_held.ensures.called

pub prune_head-requires : goal.prune_head-requires
prune_head-requires g c =
    let a = c.requires.2 in
    (c.requires.0, a.shard_record, a.stands, (c.if-not-waits.ensures c.requires.0 a.shard_record a.stands).0 refl)

pub returns-then-not-waits-clause-acts : goal.returns-then-not-waits-clause-acts
returns-then-not-waits-clause-acts g c = λ p _ a.
    none_waits_here p c.args.board.now c.args.boxes.now.items c.args.self.now c.args.seat.now a (λ some. not_true ((c.if-not-waits.ensures p a.shard_record a.stands).1 some))

pub returns-then-prune_head-clause-acts : goal.returns-then-prune_head-clause-acts
returns-then-prune_head-clause-acts g c = λ p suited a.
    let me = c.prune_head.ensures.me in
    prunes p c.args.board.now c.args.boxes.now.items c.args.self.now c.args.seat.now a c.prune_head.new.self me c.look-best.result (c.if-prune_head.ensures.pruned p a.shard_record suited a.stands refl) c.look-best.ensures.best c.look-best.new.seat c.look-best.ensures.seat
    c.look-best.ensures.view

pub returns-then-draw-self-clause-ends : goal.returns-then-draw-self-clause-ends
returns-then-draw-self-clause-ends g c = λ p _ a.
    let s = c.args.self.now in
    let waits = (c.if-not-waits.ensures p a.shard_record a.stands).0 refl in
    let drawn = drew c.args.board.now c.args.seat.now c.look-best.new.seat c.draw.new.seat c.look-best.result c.draw.result c.look-best.ensures.view c.look-best.ensures.best c.draw.ensures.seat c.draw.ensures.view c.draw.ensures.before in
    subst (λ (shard : Shard g.row.L.Denot g.row.K.Denot). Leaves p c.args.board.now c.args.boxes.now.items c.halt.result (record s { shard = shard }) c.halt.new.seat) (sym (c.if-prune_head.ensures.kept refl))
    (spends p c.args.board.now c.args.boxes.now.items s c.args.seat.now a waits c.look-best.result c.draw.result c.draw.new.seat drawn c.halt.new.seat c.halt.result c.if-draw-self.true
    (record { ended = c.halt.ensures.ended; on_board = c.halt.ensures.seat; view = c.halt.ensures.view }))

pub visit-requires : goal.visit-requires
visit-requires g c =
    let a = c.requires.2 in
    (c.requires.0, a.shard_record, subst (λ (shard : Shard g.row.L.Denot g.row.K.Denot). Stands c.requires.0 shard a.shard_record) (sym (c.if-prune_head.ensures.kept refl)) a.stands, (c.if-not-waits.ensures c.requires.0 a.shard_record a.stands).0 refl)

pub returns-in-Done-Some-clause-acts : goal.returns-in-Done-Some-clause-acts
returns-in-Done-Some-clause-acts g c = λ p suited a.
    let s = c.args.self.now in
    let kept = c.if-prune_head.ensures.kept refl in
    let me = c.visit.ensures.me in
    let waits = (c.if-not-waits.ensures p a.shard_record a.stands).0 refl in
    let drawn = drew c.args.board.now c.args.seat.now c.look-best.new.seat c.draw.new.seat c.look-best.result c.draw.result c.look-best.ensures.view c.look-best.ensures.best c.draw.ensures.seat c.draw.ensures.view c.draw.ensures.before in
    let st = subst (λ (shard : Shard g.row.L.Denot g.row.K.Denot). Stands p shard a.shard_record) (sym kept) a.stands in
    let is = subst (λ (offer : Option ℕ). IsVisit p c.prune_head.new.self.me c.look-best.result a.shard_record offer c.visit.new.self) c.in-Done-Some.offer-is (c.in-Done-Some.ensures.visited p a.shard_record suited st waits) in
    let fits : Fits w64 c.in-Done-Some.word = search rules in
    let small : c.in-Done-Some.word ≤ no_word = omega arith in
    visits_news p c.args.board.now c.args.boxes.now.items s c.args.seat.now a c.visit.new.self (me ∙ ap (λ (shard : Shard g.row.L.Denot g.row.K.Denot). shard.me) kept) c.prune_head.new.self.me c.look-best.result c.draw.result c.in-Done-Some.word (ap (λ (shard : Shard g.row.L.Denot g.row.K.Denot). shard.me) kept) small is
    c.draw.new.seat drawn c.if-draw-self.false c.offer_held.new.seat c.offer_held.ensures.seat c.offer_held.ensures.view c.offer_held.new.calling c.offer_held.ensures.called

pub returns-in-Done-None-clause-acts : goal.returns-in-Done-None-clause-acts
returns-in-Done-None-clause-acts g c = λ p suited a.
    let s = c.args.self.now in
    let kept = c.if-prune_head.ensures.kept refl in
    let me = c.visit.ensures.me in
    let waits = (c.if-not-waits.ensures p a.shard_record a.stands).0 refl in
    let drawn = drew c.args.board.now c.args.seat.now c.look-best.new.seat c.draw.new.seat c.look-best.result c.draw.result c.look-best.ensures.view c.look-best.ensures.best c.draw.ensures.seat c.draw.ensures.view c.draw.ensures.before in
    let st = subst (λ (shard : Shard g.row.L.Denot g.row.K.Denot). Stands p shard a.shard_record) (sym kept) a.stands in
    let is = subst (λ (offer : Option ℕ). IsVisit p c.prune_head.new.self.me c.look-best.result a.shard_record offer c.visit.new.self) c.in-Done-None.offer-is (c.in-Done-None.ensures.visited p a.shard_record suited st waits) in
    visits p c.args.board.now c.args.boxes.now.items s c.args.seat.now a c.visit.new.self (me ∙ ap (λ (shard : Shard g.row.L.Denot g.row.K.Denot). shard.me) kept) c.prune_head.new.self.me c.look-best.result c.draw.result (ap (λ (shard : Shard g.row.L.Denot g.row.K.Denot). shard.me) kept) is c.draw.new.seat drawn c.if-draw-self.false

pub returns-in-Fault-clause-ends : goal.returns-in-Fault-clause-ends
returns-in-Fault-clause-ends g c = λ p suited a.
    let s = c.args.self.now in
    let kept = c.if-prune_head.ensures.kept refl in
    let me = c.visit.ensures.me in
    let waits = (c.if-not-waits.ensures p a.shard_record a.stands).0 refl in
    let drawn = drew c.args.board.now c.args.seat.now c.look-best.new.seat c.draw.new.seat c.look-best.result c.draw.result c.look-best.ensures.view c.look-best.ensures.best c.draw.ensures.seat c.draw.ensures.view c.draw.ensures.before in
    let st = subst (λ (shard : Shard g.row.L.Denot g.row.K.Denot). Stands p shard a.shard_record) (sym kept) a.stands in
    faults p c.args.board.now c.args.boxes.now.items s c.args.seat.now a waits c.look-best.result c.draw.result c.draw.new.seat drawn c.halt-in-Fault.new.seat c.halt-in-Fault.result c.visit.new.self (me ∙ ap (λ (shard : Shard g.row.L.Denot g.row.K.Denot). shard.me) kept)
    c.if-draw-self.false c.prune_head.new.self.me (ap (λ (shard : Shard g.row.L.Denot g.row.K.Denot). shard.me) kept) c.in-Fault.field-0 (c.in-Fault.ensures.visited p a.shard_record suited st waits) (record { ended = c.halt-in-Fault.ensures.ended; on_board = c.halt-in-Fault.ensures.seat; view = c.halt-in-Fault.ensures.view })

pub returns-in-Memory-clause-ends : goal.returns-in-Memory-clause-ends
returns-in-Memory-clause-ends g c = λ p suited a.
    let s = c.args.self.now in
    let kept = c.if-prune_head.ensures.kept refl in
    let me = c.visit.ensures.me in
    let waits = (c.if-not-waits.ensures p a.shard_record a.stands).0 refl in
    let drawn = drew c.args.board.now c.args.seat.now c.look-best.new.seat c.draw.new.seat c.look-best.result c.draw.result c.look-best.ensures.view c.look-best.ensures.best c.draw.ensures.seat c.draw.ensures.view c.draw.ensures.before in
    let st = subst (λ (shard : Shard g.row.L.Denot g.row.K.Denot). Stands p shard a.shard_record) (sym kept) a.stands in
    loses p c.args.board.now c.args.boxes.now.items s c.args.seat.now a waits c.look-best.result c.draw.result c.draw.new.seat drawn c.halt-in-Memory.new.seat c.halt-in-Memory.result c.visit.new.self (me ∙ ap (λ (shard : Shard g.row.L.Denot g.row.K.Denot). shard.me) kept)
    c.if-draw-self.false (c.in-Memory.ensures.visited p a.shard_record suited st waits) (record { ended = c.halt-in-Memory.ensures.ended; on_board = c.halt-in-Memory.ensures.seat; view = c.halt-in-Memory.ensures.view })
