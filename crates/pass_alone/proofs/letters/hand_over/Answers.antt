use Rattle.std.proofs.Common.{refl, ◌∙◌}
use Rattle.pass_alone.proofs.Turns.{handed_more, handed_none, more_stopped, stopped}
use Rattle.pass_alone.proofs.letters.hand_over.Goals as goal

pub letters-init : goal.letters-init
letters-init g c = record { asked = c.requires; goes_on = λ p suited a. (a, handed_none a.shard_record); me = refl }

pub letters-preserved : goal.letters-preserved
letters-preserved g c =
    let before = c.letters.invariant in
    let next = c.in_ok-hand_next.ensures in
    let k = before.asked in
    record {
      asked = (k.0, k.1, (next.goes_on k.0 k.1 k.2).0);
      goes_on = λ p suited a.
          let b = before.goes_on p suited a in
          let x = next.goes_on p suited b.0 in
          (x.0, handed_more a.shard_record b.0.shard_record x.0.shard_record b.1 x.1);
      me = next.me ∙ before.me;
    }

pub returns-then-not-branch-clause-goes_on : goal.returns-then-not-branch-clause-goes_on
returns-then-not-branch-clause-goes_on g c = λ p suited a.
    let b = c.letters.invariant.goes_on p suited a in
    let x = c.in_ok-hand_next.ensures.goes_on p suited b.0 in
    (x.0, handed_more a.shard_record b.0.shard_record x.0.shard_record b.1 x.1, x.2 c.if-not-branch.true)

pub returns-in_err-hand_next-clause-stops : goal.returns-in_err-hand_next-clause-stops
returns-in_err-hand_next-clause-stops g c = λ p suited a.
    let b = c.letters.invariant.goes_on p suited a in
    more_stopped p c.hand_next.new.shard a.shard_record b.0.shard_record b.1 c.from_residual.result (c.in_err-hand_next.ensures.stops p suited b.0)

pub returns-clause-stops : goal.returns-clause-stops
returns-clause-stops g c = λ p suited a.
    let b = c.letters.invariant.goes_on p suited a in
    let x = stopped p c.letters.shard b.0 in
    (x.0, handed_more a.shard_record b.0.shard_record x.0.shard_record b.1 x.1)
