use Rattle.std.proofs.Common.{◌∙◌, sym, arith}
use Rattle.yaml_tree.specs.BlockScalars.{in_content}
use Rattle.yaml_tree.proofs.BlockLines.{prefix_more, content_stop, content_end}
use Rattle.yaml_tree.proofs.block_scalar.content_of.Goals as goal

pub loop-count-preserved : goal.loop-count-preserved
loop-count-preserved c =
    let k = c.loop-count.invariant in
    record {
      within = omega arith;
      same = sym (prefix_more (in_content c.args.least) c.args.below.now c.loop-count.count c.row.result c.row.ensures (sym c.in_content.ensures ∙ c.if-not-in_content.false)) ∙ k.same;
    }

pub returns-then-not-in_content-clause-value : goal.returns-then-not-in_content-clause-value
returns-then-not-in_content-clause-value c =
    c.first.ensures ∙ content_stop c.args.least c.args.below.now c.loop-count.count c.row.result c.loop-count.invariant.same c.row.ensures (sym c.in_content.ensures ∙ c.if-not-in_content.true)

pub returns-clause-value : goal.returns-clause-value
returns-clause-value c = c.first-2.ensures ∙ content_end c.args.least c.args.below.now c.loop-count.count c.loop-count.invariant.same (omega arith)
