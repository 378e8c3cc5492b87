use Rattle.std.proofs.Common.{false, true}
use Rattle.solve_top.proofs.Behinds.{follows_alone, follows_behind, follows_silent, held_claim, if_asked, rose_behind}
use Rattle.solve_top.proofs.making.certify.Goals as goal

pub put_behind-requires : goal.put_behind-requires
put_behind-requires g c = held_claim c.args.model.now c.args.solved.now.claim c.in-Some.claim c.requires.holds c.in-Some.is

pub returns-then-not-certificate-clause-printed : goal.returns-then-not-certificate-clause-printed
returns-then-not-certificate-clause-printed g c = λ before text claimed wanted printed.
    if_asked c.args.model.now c.args.options.now c.args.certificate false before (g.S.Sink.taken c.args.out.now) text claimed wanted c.args.solved.now.status c.if-not-certificate.true
    (follows_alone c.args.model.now c.args.options.now before (g.S.Sink.taken c.args.out.now) text claimed wanted c.args.solved.now printed)

pub returns-in-Some-clause-printed : goal.returns-in-Some-clause-printed
returns-in-Some-clause-printed g c = λ before text claimed wanted printed.
    if_asked c.args.model.now c.args.options.now c.args.certificate true before (g.S.Sink.taken c.put_behind.new.out) text claimed wanted c.put_behind.result c.if-not-certificate.false
    (follows_behind c.args.model.now c.args.options.now before (g.S.Sink.taken c.args.out.now) text claimed wanted c.args.solved.now printed c.in-Some.claim (g.S.Sink.taken c.put_behind.new.out) c.put_behind.result c.in-Some.is c.put_behind.ensures.printed)

pub returns-in-None-clause-printed : goal.returns-in-None-clause-printed
returns-in-None-clause-printed g c = λ before text claimed wanted printed.
    if_asked c.args.model.now c.args.options.now c.args.certificate true before (g.S.Sink.taken c.args.out.now) text claimed wanted c.args.solved.now.status c.if-not-certificate.false
    (follows_silent c.args.model.now c.args.options.now before (g.S.Sink.taken c.args.out.now) text claimed wanted c.args.solved.now printed c.in-None.is)

pub returns-in-Some-clause-failed : goal.returns-in-Some-clause-failed
returns-in-Some-clause-failed g c = λ is. rose_behind c.args.solved.now.claim c.in-Some.claim c.args.solved.now.status _ _ c.requires.unclaimed c.in-Some.is (c.put_behind.ensures.failed is)
