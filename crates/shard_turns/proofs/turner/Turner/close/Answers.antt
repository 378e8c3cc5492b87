use Rattle.std.proofs.Common.{refl}
use Rattle.shard_core.proofs.Tells.{finds_done}
use Rattle.shard_turns.proofs.Acting.{is_done, closes, stays_open, not_true, runs_out}
use Rattle.shard_turns.proofs.turner.Turner.close.Goals as goal

pub returns-then-is_done-clause-ends : goal.returns-then-is_done-clause-ends
returns-then-is_done-clause-ends g c = λ p _ a. is_done p c.args.board.now c.args.boxes.now.items c.args.self.now c.args.seat.now a ((c.if-is_done.ensures p a.shard_record a.stands).0 refl)

pub close-requires : goal.close-requires
close-requires g c =
    let a = c.requires.2 in
    (c.requires.0, a.shard_record, a.stands, (c.if-not-ready.ensures c.requires.0 a.shard_record a.stands).0 refl)

pub returns-then-not-ready-clause-acts : goal.returns-then-not-ready-clause-acts
returns-then-not-ready-clause-acts g c = λ p suited a.
    stays_open p c.args.board.now c.args.boxes.now.items c.args.self.now c.args.seat.now a (λ done. not_true ((c.if-not-ready.ensures p a.shard_record a.stands).1 (finds_done p c.args.self.now.shard a.shard_record a.stands done).0)) (λ ready. not_true ((c.if-not-ready.ensures p a.shard_record a.stands).1 ready))

pub returns-in-Ok-clause-acts : goal.returns-in-Ok-clause-acts
returns-in-Ok-clause-acts g c = λ p suited a.
    let me = c.close.ensures.me in
    closes p c.args.board.now c.args.boxes.now.items c.args.self.now c.args.seat.now a c.close.new.self me c.in-Ok.field-0 (c.in-Ok.ensures.closed p a.shard_record suited a.stands ((c.if-not-ready.ensures p a.shard_record a.stands).0 refl))
    (λ done. not_true ((c.if-is_done.ensures p a.shard_record a.stands).1 done))

pub returns-in-Err-clause-ends : goal.returns-in-Err-clause-ends
returns-in-Err-clause-ends g c = λ p _ a.
    let me = c.close.ensures.me in
    runs_out p c.args.board.now c.args.boxes.now.items c.args.self.now c.args.seat.now a c.close.new.self me (c.in-Err.ensures.ended p a.shard_record a.stands) c.halt.new.seat c.halt.result (record { ended = c.halt.ensures.ended; on_board = c.halt.ensures.seat; view = c.halt.ensures.view })
