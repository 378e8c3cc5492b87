use Rattle.std.proofs.Common.{◌∙◌}
use Rattle.best_ledger.specs.Events.{post}
use Rattle.best_ledger.specs.Records.{to_post}
use Rattle.best_alone.proofs.Turns.{comes, loses_letter, still, takes}
use Rattle.best_alone.proofs.letters.take_next.Goals as goal

pub returns-in_default-clause-goes_on : goal.returns-in_default-clause-goes_on
returns-in_default-clause-goes_on g c = λ p budget _ a. still p c.args.board.now budget c.args.shard.now c.args.seat.now a c.next_letter.new.self (c.in_default.ensures.none p a.shard_record a.stands).1

pub accept-requires : goal.accept-requires
accept-requires g c =
    let p = c.requires.0 in
    let a = c.requires.3 in
    let u = to_post c.in-Some.to c.in-Some.letter in
    let is = c.in-Some.ensures.posted p a.shard_record a.stands in
    (p, post a.shard_record u is.rest, is.stands, comes p c.args.board.now c.requires.1 c.args.shard.now c.args.seat.now a u c.next_letter.new.self is)

pub halt-requires : goal.halt-requires
halt-requires g c = c.requires.3.on_board

pub returns-in_default-accept-clause-ends : goal.returns-in_default-accept-clause-ends
returns-in_default-accept-clause-ends g c = λ p budget _ a.
    let u = to_post c.in-Some.to c.in-Some.letter in
    let is = c.in-Some.ensures.posted p a.shard_record a.stands in
    loses_letter p c.args.board.now budget c.args.shard.now c.args.seat.now a u c.next_letter.new.self is c.accept.new.self (c.accept.ensures.me ∙ c.next_letter.ensures.me) (c.in_default-accept.ensures.same p (post a.shard_record u is.rest) is.stands)
    c.halt.new.seat c.halt.result (record { ended = c.halt.ensures.ended; on_board = c.halt.ensures.seat; view = c.halt.ensures.view })

pub returns-clause-goes_on : goal.returns-clause-goes_on
returns-clause-goes_on g c = λ p budget suited a.
    let u = to_post c.in-Some.to c.in-Some.letter in
    let is = c.in-Some.ensures.posted p a.shard_record a.stands in
    let can = comes p c.args.board.now budget c.args.shard.now c.args.seat.now a u c.next_letter.new.self is in
    takes p c.args.board.now budget c.args.shard.now c.args.seat.now a u c.next_letter.new.self is c.accept.new.self (c.in-Ok.ensures.taken p (post a.shard_record u is.rest) suited is.stands can)
