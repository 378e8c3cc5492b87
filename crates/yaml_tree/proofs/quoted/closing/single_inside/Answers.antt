use Rattle.std.proofs.Common.{◌∙◌, sym, arith}
use Rattle.yaml_tree.proofs.ScalarQuotes.{single_other_at, single_pair_at, single_closes_at, single_open_at}
use Rattle.yaml_tree.proofs.quoted.closing.single_inside.Goals.{else-at-bytes-via-then-at-bytes+else-bytes-at-eq39, else-at-bytes-via-else-at-bytes}
use Rattle.yaml_tree.proofs.quoted.closing.single_inside.Goals as goal

pub loop-at-preserved-then-bytes-at-ne39 : goal.loop-at-preserved-then-bytes-at-ne39
loop-at-preserved-then-bytes-at-ne39 c = record {
  within = omega arith;
  same = c.loop-at.invariant.same ∙ single_other_at c.args.bytes.now c.loop-at.at c.loop-at-test.true c.if-bytes-at-ne39.true;
}

pub loop-at-preserved : goal.loop-at-preserved
loop-at-preserved c = record {
  within = omega arith;
  same = c.loop-at.invariant.same ∙ single_pair_at c.args.bytes.now c.loop-at.at c.if-at-bytes.true c.if-bytes-at-ne39.false c.if-bytes-at-eq39.true;
}

pub returns-else-at-bytes : goal.returns-else-at-bytes
returns-else-at-bytes c =
    let closes = single_closes_at c.args.bytes.now c.loop-at.at c.loop-at-test.true c.if-bytes-at-ne39.false in
    elim c.else-at-bytes.branch [
      | else-at-bytes-via-then-at-bytes+else-bytes-at-eq39 w ↦ sym (c.loop-at.invariant.same ∙ closes (λ lt. w.if-bytes-at-eq39.false))
      | else-at-bytes-via-else-at-bytes w ↦ sym (c.loop-at.invariant.same ∙ closes (λ lt is. omega arith))
    ]

pub returns : goal.returns
returns c = sym (c.loop-at.invariant.same ∙ single_open_at c.args.bytes.now c.loop-at.at c.loop-at-test.false)
