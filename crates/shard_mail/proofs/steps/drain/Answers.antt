use Rattle.std.proofs.Common.{ap, ◌∙◌, ◌<◌, subst}
use Rattle.shard_mail.proofs.Delivery as delivery
use Rattle.shard_mail.proofs.Settling as settling
use Rattle.shard_mail.proofs.steps.drain.Goals as goal

pub pop_as-requires-clause-rule : goal.pop_as-requires-clause-rule
pop_as-requires-clause-rule g c =
    let p = c.loop.pass in
    let role = ap (λ v. v.role) c.loop.invariant.1 ∙ c.requires.takes in (
      delivery.takes g.row.T-Terms.coded g.T.Signed.lawful g.T.Signed.sender_of g.met.T.Signed.starts g.met.T.Signed.begins p.id p.me.view.client role,
      delivery.learns g.row.T-Terms.coded g.T.Signed.lawful g.T.Signed.sender_of g.met.T.Signed.starts g.met.T.Signed.begins p.id p.me.view.client role,
    )

pub loop-preserved : goal.loop-preserved
loop-preserved g c =
    let old = c.args.pass.now.me.view.client in
    let now = c.loop.pass.me.view.client in
    let x = c.in-Some-pop_as.letter in
    let rule = c.in-Some-pop_as.ensures.rule in
    let pushed = c.in_ok-push-in-Some-pop_as.ensures.items in (
      c.pop_as.ensures.queue.0,
      settling.taken_more old now c.pop_as.new.pass.me.view.client c.loop.left.items c.push.new.self.items x c.loop.invariant.1 rule.0.0 pushed,
      settling.known_more g.T.Signed.sender_of old.senders c.loop.left.items c.push.new.self.items x pushed (subst (λ n. g.T.Signed.sender_of x < n) (ap (λ v. v.senders) c.loop.invariant.1) rule.0.1.known) c.loop.invariant.2,
      tt,
      tt,
    )

pub returns-in_err-push-in-Some-pop_as-clause-begun : goal.returns-in_err-push-in-Some-pop_as-clause-begun
returns-in_err-push-in-Some-pop_as-clause-begun g c =
    let old = c.args.pass.now.me.view.client in
    settling.at_error _ c.from_residual.result
    (settling.begun_start g.T.Signed.sender_of old c.loop.pass.me.view.client c.loop.left.items c.in-Some-pop_as.letter c.loop.invariant.1 c.in-Some-pop_as.ensures.rule.0.1.begun)
