use Rattle.std.proofs.Common.{inl, ◌∙◌, refl, rules}
use Rattle.best_turns.proofs.Working.{taken_more}
use Rattle.best_turns.proofs.turner.BestTurner.take.Goals as goal

pub loop-init : goal.loop-init
loop-init g c = record { asked = c.requires; goes_on = λ _ _ a. (a, inl refl); same = refl; me = refl }

pub loop-preserved : goal.loop-preserved
loop-preserved g c =
    let before = c.loop.invariant in
    let acts = c.in_ok-take_next.ensures.acts in
    record {
      asked = (before.asked.0, before.asked.1, (acts before.asked.0 before.asked.1 before.asked.2).0);
      goes_on = λ p suited a.
          let first = before.goes_on p suited a in
          let next = acts p suited first.0 in
          (next.0, taken_more a.shard_record first.0.shard_record next.0.shard_record first.1 next.1);
      same = c.in_ok-take_next.ensures.same ∙ before.same;
      me = c.in_ok-take_next.ensures.me ∙ before.me;
    }

pub returns-in_err-take_next-clause-ends : goal.returns-in_err-take_next-clause-ends
returns-in_err-take_next-clause-ends g c = λ p suited a.
    let left = c.in_err-take_next.ensures.ends p suited (c.loop.invariant.goes_on p suited a).0 in
    search rules

pub returns-then-not-branch-clause-acts : goal.returns-then-not-branch-clause-acts
returns-then-not-branch-clause-acts g c = λ p suited a.
    let first = c.loop.invariant.goes_on p suited a in
    let next = c.in_ok-take_next.ensures.acts p suited first.0 in
    (next.0, taken_more a.shard_record first.0.shard_record next.0.shard_record first.1 next.1)

pub returns-clause-acts : goal.returns-clause-acts
returns-clause-acts g c = λ p suited a. c.loop.invariant.goes_on p suited a
