use Rattle.std.proofs.Common.{◌≡◌, true, false}
use Rattle.pass_ledger.specs.Events.{post}
use Rattle.cert_making.proofs.Turns.{handed, rests, takes}
use Rattle.cert_making.proofs.letters.hand_next.Goals as goal

pub next_letter-requires : goal.next_letter-requires
next_letter-requires g c = (c.requires.0, c.requires.6.shard_record, c.requires.6.stands)

pub returns-in_default : goal.returns-in_default
returns-in_default g c = λ p claimed budget layers first _ a.
    let quiet = c.in_default.ensures.quiet p a.shard_record a.stands in
    let x = rests p claimed budget layers first c.args.shard.now a c.next_letter.new.self quiet.0 quiet.1 in
    (x.0, x.1, λ _. x.2)

pub accept-requires : goal.accept-requires
accept-requires g c =
    let p = c.requires.0 in
    let a = c.requires.6 in
    let is = c.in-Some.ensures.posted p a.shard_record a.stands in
    (p, post a.shard_record c.in-Some.to c.in-Some.letter is.rest, is.stands, takes p c.requires.1 c.requires.2 c.requires.3 c.requires.4 c.args.shard.now a c.in-Some.to c.in-Some.letter c.next_letter.new.self is)

pub returns : goal.returns
returns g c = λ p claimed budget layers first suited a.
    let is = c.in-Some.ensures.posted p a.shard_record a.stands in
    let taken = c.in-Ok.ensures.taken p (post a.shard_record c.in-Some.to c.in-Some.letter is.rest) suited is.stands (takes p claimed budget layers first c.args.shard.now a c.in-Some.to c.in-Some.letter c.next_letter.new.self is) in
    let x = handed p claimed budget layers first c.args.shard.now a c.in-Some.to c.in-Some.letter c.next_letter.new.self c.accept.new.self is taken in
    (x.0, x.1, λ e. absurd (not_true e))
  where
    not_true : true ≡ false → ⊥
    not_true e = cc
