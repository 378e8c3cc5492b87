use Rattle.pass_ledger.specs.Events.{post}
use Rattle.pass_alone.proofs.Turns.{handed, lost, not_false, rests, takes}
use Rattle.pass_alone.proofs.letters.hand_next.Goals as goal

pub next_letter-requires : goal.next_letter-requires
next_letter-requires g c = let a = c.requires.2 in (c.requires.0, a.shard_record, a.stands)

pub returns-in_default-clause-goes_on : goal.returns-in_default-clause-goes_on
returns-in_default-clause-goes_on g c = λ p _ a.
    let quiet = c.in_default.ensures.quiet p a.shard_record a.stands in
    let x = rests p c.args.shard.now a c.next_letter.new.self quiet.0 quiet.1 in
    (x.0, x.1, λ _. x.2)

pub accept-requires : goal.accept-requires
accept-requires g c =
    let p = c.requires.0 in
    let a = c.requires.2 in
    let is = c.in-Some.ensures.posted p a.shard_record a.stands in
    (p, post a.shard_record c.in-Some.to c.in-Some.letter is.rest, is.stands, takes p c.args.shard.now a c.in-Some.to c.in-Some.letter c.next_letter.new.self is)

pub returns-in_default-accept-clause-stops : goal.returns-in_default-accept-clause-stops
returns-in_default-accept-clause-stops g c = λ p _ a.
    let is = c.in-Some.ensures.posted p a.shard_record a.stands in
    lost p c.args.shard.now a c.in-Some.to c.in-Some.letter c.next_letter.new.self is c.accept.new.self (c.in_default-accept.ensures.same p (post a.shard_record c.in-Some.to c.in-Some.letter is.rest) is.stands)

pub returns-clause-goes_on : goal.returns-clause-goes_on
returns-clause-goes_on g c = λ p suited a.
    let is = c.in-Some.ensures.posted p a.shard_record a.stands in
    let taken = c.in-Ok.ensures.taken p (post a.shard_record c.in-Some.to c.in-Some.letter is.rest) suited is.stands (takes p c.args.shard.now a c.in-Some.to c.in-Some.letter c.next_letter.new.self is) in
    let x = handed p c.args.shard.now a c.in-Some.to c.in-Some.letter c.next_letter.new.self is c.accept.new.self taken in
    (x.0, x.1, λ e. absurd (not_false e))
