use Rattle.std.proofs.Common.{◌∙◌, sym, arith}
use Rattle.yaml_tree.proofs.ScalarQuotes.{double_other_at, double_escape_at, double_closes_at, double_open_at}
use Rattle.yaml_tree.proofs.quoted.closing.double_inside.Goals as goal

pub returns-in-34 : goal.returns-in-34
returns-in-34 c = sym (c.loop-at.invariant.same ∙ double_closes_at c.args.bytes.now c.loop-at.at c.loop-at-test.true c.in-34.is)

pub loop-at-preserved-in-92 : goal.loop-at-preserved-in-92
loop-at-preserved-in-92 c = record {
  within = omega arith;
  same = c.loop-at.invariant.same ∙ double_escape_at c.args.bytes.now c.loop-at.at c.loop-at-test.true c.in-92.is;
}

pub loop-at-preserved : goal.loop-at-preserved
loop-at-preserved c = record {
  within = omega arith;
  same = c.loop-at.invariant.same ∙ double_other_at c.args.bytes.now c.loop-at.at c.loop-at-test.true (λ is. omega arith) (λ is. omega arith);
}

pub returns : goal.returns
returns c = sym (c.loop-at.invariant.same ∙ double_open_at c.args.bytes.now c.loop-at.at c.loop-at-test.false)
