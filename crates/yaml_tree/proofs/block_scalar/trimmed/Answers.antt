use Rattle.std.proofs.Common.{◌∙◌, sym, arith}
use Rattle.yaml_tree.proofs.BlockLines.{trim_start, trim_more, trim_stop, trim_all}
use Rattle.yaml_tree.proofs.block_scalar.trimmed.Goals as goal

pub loop-count-init : goal.loop-count-init
loop-count-init c = trim_start c.args.content.now c.len-count.result c.len-count.ensures

pub loop-count-preserved : goal.loop-count-preserved
loop-count-preserved c =
    trim_more c.args.content.now c.loop-count.count c.row.result (omega arith) c.loop-count.invariant c.row.ensures (sym c.is_blank.ensures ∙ c.if-not-is_blank.false)

pub returns-then-not-is_blank : goal.returns-then-not-is_blank
returns-then-not-is_blank c =
    c.first.ensures ∙ trim_stop c.args.content.now c.loop-count.count c.row.result (omega arith) c.loop-count.invariant c.row.ensures (sym c.is_blank.ensures ∙ c.if-not-is_blank.true)

pub returns : goal.returns
returns c = c.first-2.ensures ∙ trim_all c.args.content.now c.loop-count.count (omega arith) c.loop-count.invariant
