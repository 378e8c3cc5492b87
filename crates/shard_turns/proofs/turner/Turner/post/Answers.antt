use Rattle.std.proofs.Common.{ℕ, subst, ◌∙◌, refl, rules}
use Rattle.shard_core.specs.Calls.{IsQuiet}
use Rattle.shard_turns.proofs.Working.{posted_more}
use Rattle.shard_turns.proofs.turner.Turner.post.Goals as goal

pub loop-preserved : goal.loop-preserved
loop-preserved g c =
    let before = c.loop.invariant in
    let acts = c.in_ok-post_next.ensures.acts in
    record {
      asked = (before.asked.0, before.asked.1, (acts before.asked.0 before.asked.1 before.asked.2).0);
      goes_on = λ p suited a.
          let first = before.goes_on p suited a in
          let next = acts p suited first.0 in
          (next.0, posted_more a.shard_record first.0.shard_record next.0.shard_record first.1 next.1.posted);
      same = c.in_ok-post_next.ensures.same ∙ before.same;
      me = c.in_ok-post_next.ensures.me ∙ before.me;
      queue = c.in_ok-post_next.ensures.queue ∙ before.queue;
    }

pub loop-init : goal.loop-init
loop-init g c = record { asked = c.requires; goes_on = λ _ _ a. (a, record { waiting = refl; rows = refl }); same = refl; me = refl; queue = refl }

pub returns-in_err-post_next-clause-ends : goal.returns-in_err-post_next-clause-ends
returns-in_err-post_next-clause-ends g c = λ p suited a.
    let left = c.in_err-post_next.ensures.ends p suited (c.loop.invariant.goes_on p suited a).0 in
    search rules

pub returns-then-not-branch-clause-acts : goal.returns-then-not-branch-clause-acts
returns-then-not-branch-clause-acts g c = λ p suited a.
    let first = c.loop.invariant.goes_on p suited a in
    let next = c.in_ok-post_next.ensures.acts p suited first.0 in
    (next.0, posted_more a.shard_record first.0.shard_record next.0.shard_record first.1 next.1.posted, subst (λ (i : ℕ). IsQuiet p i next.0.shard_record) c.loop.invariant.me (next.1.quiet c.if-not-branch.true))

pub returns-then-is_quiet-clause-acts : goal.returns-then-is_quiet-clause-acts
returns-then-is_quiet-clause-acts g c = λ p suited a. (a, record { waiting = refl; rows = refl }, c.if-is_quiet.ensures p a.shard_record a.stands refl)
