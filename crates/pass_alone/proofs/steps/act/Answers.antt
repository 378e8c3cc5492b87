use Rattle.std.proofs.Common.{refl}
use Rattle.pass_alone.proofs.Turns.{none_left, not_true, ready}
use Rattle.pass_alone.proofs.steps.act.Goals as goal

pub handle_next-requires : goal.handle_next-requires
handle_next-requires g c =
    let k = c.requires in
    let a = k.2.acts.goes in
    (k.0, k.1, k.2.acts, (c.if-waits.ensures k.0 a.shard_record a.stands).0 refl)

pub close_layer-requires : goal.close_layer-requires
close_layer-requires g c =
    let k = c.requires in
    let a = k.2.acts.goes in
    let idle = none_left k.0 c.args.shard.now a (λ some. not_true ((c.if-waits.ensures k.0 a.shard_record a.stands).1 some)) in
    (k.0, c.args.budget, k.1, k.2.acts, ready k.0 c.args.shard.now a idle k.2.quiet)

pub returns-then-waits-clause-goes_on : goal.returns-then-waits-clause-goes_on
returns-then-waits-clause-goes_on g c = λ p suited a. let b = a.acts.goes in c.handle_next.ensures.goes_on p suited a.acts ((c.if-waits.ensures p b.shard_record b.stands).0 refl)

pub returns-then-waits-clause-ends : goal.returns-then-waits-clause-ends
returns-then-waits-clause-ends g c = λ p suited a. let b = a.acts.goes in c.handle_next.ensures.ends p suited a.acts ((c.if-waits.ensures p b.shard_record b.stands).0 refl)

pub returns-clause-goes_on : goal.returns-clause-goes_on
returns-clause-goes_on g c = λ p suited a.
    let b = a.acts.goes in
    let idle = none_left p c.args.shard.now b (λ some. not_true ((c.if-waits.ensures p b.shard_record b.stands).1 some)) in
    c.close_layer.ensures.goes_on p c.args.budget suited a.acts (ready p c.args.shard.now b idle a.quiet)

pub returns-clause-ends : goal.returns-clause-ends
returns-clause-ends g c = λ p suited a.
    let b = a.acts.goes in
    let idle = none_left p c.args.shard.now b (λ some. not_true ((c.if-waits.ensures p b.shard_record b.stands).1 some)) in
    c.close_layer.ensures.ends p c.args.budget suited a.acts (ready p c.args.shard.now b idle a.quiet)
