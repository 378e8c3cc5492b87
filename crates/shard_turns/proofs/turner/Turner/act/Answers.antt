use Rattle.std.proofs.Common.{ℕ, subst, ◌∙◌, rules}
use Rattle.shard_core.specs.Calls.{IsQuiet}
use Rattle.shard_turns.specs.Works.{HasClosed}
use Rattle.shard_turns.proofs.Working.{worked, on_each}
use Rattle.shard_turns.proofs.turner.Turner.act.Goals as goal

pub take-requires : goal.take-requires
take-requires g c =
    let p = c.requires.0 in
    let suited = c.requires.1 in
    (p, suited, (c.in_ok-look_for_halt.ensures.acts p suited c.requires.2).0)

pub close-requires : goal.close-requires
close-requires g c =
    let p = c.requires.0 in
    let suited = c.requires.1 in
    (p, suited, (c.in_ok-take.ensures.acts p suited (c.in_ok-look_for_halt.ensures.acts p suited c.requires.2).0).0)

pub visit-requires : goal.visit-requires
visit-requires g c =
    let p = c.requires.0 in
    let suited = c.requires.1 in
    (p, suited, (c.in_ok-close.ensures.acts p suited (c.in_ok-take.ensures.acts p suited (c.in_ok-look_for_halt.ensures.acts p suited c.requires.2).0).0).0)

pub post-requires : goal.post-requires
post-requires g c =
    let p = c.requires.0 in
    let suited = c.requires.1 in
    (p, suited, (c.in_ok-visit.ensures.acts p suited (c.in_ok-close.ensures.acts p suited (c.in_ok-take.ensures.acts p suited (c.in_ok-look_for_halt.ensures.acts p suited c.requires.2).0).0).0).0)

pub returns-in_err-take-clause-ends : goal.returns-in_err-take-clause-ends
returns-in_err-take-clause-ends g c = λ p suited a.
    let left = c.in_err-take.ensures.ends p suited (c.in_ok-look_for_halt.ensures.acts p suited a).0 in
    search rules

pub returns-in_err-close-clause-ends : goal.returns-in_err-close-clause-ends
returns-in_err-close-clause-ends g c = λ p suited a.
    let left = c.in_err-close.ensures.ends p suited (c.in_ok-take.ensures.acts p suited (c.in_ok-look_for_halt.ensures.acts p suited a).0).0 in
    search rules

pub returns-in_err-visit-clause-ends : goal.returns-in_err-visit-clause-ends
returns-in_err-visit-clause-ends g c = λ p suited a.
    let left = c.in_err-visit.ensures.ends p suited (c.in_ok-close.ensures.acts p suited (c.in_ok-take.ensures.acts p suited (c.in_ok-look_for_halt.ensures.acts p suited a).0).0).0 in
    search rules

pub returns-clause-acts : goal.returns-clause-acts
returns-clause-acts g c = λ p suited a.
    let looked = c.in_ok-look_for_halt.ensures.acts p suited a in
    let taken = c.in_ok-take.ensures.acts p suited looked.0 in
    let closed = c.in_ok-close.ensures.acts p suited taken.0 in
    let visited = c.in_ok-visit.ensures.acts p suited closed.0 in
    let at_close = c.take.ensures.me ∙ c.look_for_halt.ensures.me in
    let at_post = c.visit.ensures.me ∙ (c.close.ensures.me ∙ at_close) in
    on_each c.post.result
    (λ posted. (
      posted.0,
      worked p c.args.self.now.shard.me a.shard_record looked.0.shard_record taken.0.shard_record closed.0.shard_record visited.0.shard_record posted.0.shard_record looked.1 taken.1
          (subst (λ (i : ℕ). HasClosed p i taken.0.shard_record closed.0.shard_record) at_close closed.1) visited.1 posted.1
          (subst (λ (i : ℕ). IsQuiet p i posted.0.shard_record) at_post posted.2),
    ))
    (c.post.ensures.acts p suited visited.0)

pub returns-clause-ends : goal.returns-clause-ends
returns-clause-ends g c = λ p suited a. c.post.ensures.ends p suited (c.in_ok-visit.ensures.acts p suited (c.in_ok-close.ensures.acts p suited (c.in_ok-take.ensures.acts p suited (c.in_ok-look_for_halt.ensures.acts p suited a).0).0).0).0
