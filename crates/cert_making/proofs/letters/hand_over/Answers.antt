use Rattle.cert_making.proofs.Turns.{handed_more, handed_none}
use Rattle.cert_making.proofs.letters.hand_over.Goals as goal

pub letters-init : goal.letters-init
letters-init g c = record { asked = c.requires; goes_on = λ p claimed budget layers first suited a. (a, handed_none a.shard_record) }

pub letters-preserved : goal.letters-preserved
letters-preserved g c =
    let before = c.letters.invariant in
    let next = c.in_ok-hand_next.ensures in
    let k = before.asked in
    record {
      asked = (k.0, k.1, k.2, k.3, k.4, k.5, (next k.0 k.1 k.2 k.3 k.4 k.5 k.6).0);
      goes_on = λ p claimed budget layers first suited a.
          let b = before.goes_on p claimed budget layers first suited a in
          let x = next p claimed budget layers first suited b.0 in
          (x.0, handed_more a.shard_record b.0.shard_record x.0.shard_record b.1 x.1);
    }

pub returns-then-not-branch : goal.returns-then-not-branch
returns-then-not-branch g c = λ p claimed budget layers first suited a.
    let b = c.letters.invariant.goes_on p claimed budget layers first suited a in
    let x = c.in_ok-hand_next.ensures p claimed budget layers first suited b.0 in
    (x.0, handed_more a.shard_record b.0.shard_record x.0.shard_record b.1 x.1, x.2 c.if-not-branch.true)
