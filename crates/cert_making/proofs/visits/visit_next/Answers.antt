use Rattle.cert_making.proofs.Turns.{betters, faulted, if_err, is_better, on_ok, visited}
use Rattle.cert_making.proofs.visits.visit_next.Goals as goal

pub visit-requires : goal.visit-requires
visit-requires g c = (c.requires.0, c.requires.5.shard_record, c.requires.5.stands, c.requires.6)

pub returns-in-Done-clause-goes_on : goal.returns-in-Done-clause-goes_on
returns-in-Done-clause-goes_on g c = λ p budget layers first suited a waits less.
    on_ok c.weigh.result c.weigh.ensures.no_better
    (λ no_better. visited p c.args.claimed budget layers first c.args.shard.now a c.in-Done.offer c.visit.new.self (c.in-Done.ensures.visited p a.shard_record suited a.stands waits) (c.in-Done.ensures.found p a.shard_record a.stands) no_better less)

pub returns-in-Done-clause-ends : goal.returns-in-Done-clause-ends
returns-in-Done-clause-ends g c = λ p budget layers first suited a waits.
    if_err c.weigh.result c.weigh.ensures.better
    (λ halt h. is_better p c.args.claimed budget c.visit.new.self halt h.0
    (betters p c.args.claimed budget layers first c.args.shard.now a c.in-Done.offer c.visit.new.self c.visit.ensures.me (c.in-Done.ensures.visited p a.shard_record suited a.stands waits) h.1 h.2 h.3))

pub returns-in-Fault-clause-ends : goal.returns-in-Fault-clause-ends
returns-in-Fault-clause-ends g c = λ p budget layers first suited a waits.
    faulted p c.args.claimed budget layers first c.args.shard.now a c.in-Fault.field-0 c.visit.new.self c.visit.ensures.me (c.in-Fault.ensures.visited p a.shard_record suited a.stands waits)
