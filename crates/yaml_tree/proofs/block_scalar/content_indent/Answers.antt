use Rattle.std.proofs.Common.{◌∙◌, sym, arith}
use Rattle.yaml_tree.proofs.BlockLines.{indent_past, indent_here, indent_none}
use Rattle.yaml_tree.proofs.block_scalar.content_indent.Goals as goal

pub loop-index-preserved : goal.loop-index-preserved
loop-index-preserved c =
    indent_past c.args.content.now c.loop-index.index c.row-row.result c.row-row.ensures (sym c.is_blank.ensures ∙ c.if-not-is_blank.false) ∙ c.loop-index.invariant

pub returns-then-not-is_blank : goal.returns-then-not-is_blank
returns-then-not-is_blank c =
    c.indent.ensures ∙ indent_here c.args.content.now c.loop-index.index c.row-row.result c.row-row.ensures (sym c.is_blank.ensures ∙ c.if-not-is_blank.true) ∙ c.loop-index.invariant

pub returns : goal.returns
returns c = indent_none c.args.content.now c.loop-index.index (omega arith) ∙ c.loop-index.invariant
