use Rattle.std.proofs.Common.{◌∙◌, sym, arith}
use Rattle.yaml_tree.specs.BlockScalars.{is_shallow}
use Rattle.yaml_tree.proofs.BlockLines.{find_past, find_here, find_none}
use Rattle.yaml_tree.proofs.block_scalar.shallow.Goals as goal

pub loop-index-preserved : goal.loop-index-preserved
loop-index-preserved c =
    find_past (is_shallow c.args.indent) c.args.content.now c.loop-index.index c.row-row.result c.row-row.ensures (sym c.is_shallow.ensures ∙ c.if-is_shallow.false) ∙ c.loop-index.invariant

pub returns-then-is_shallow : goal.returns-then-is_shallow
returns-then-is_shallow c =
    find_here (is_shallow c.args.indent) c.args.content.now c.loop-index.index c.row-row.result c.row-row.ensures (sym c.is_shallow.ensures ∙ c.if-is_shallow.true) ∙ c.loop-index.invariant

pub returns : goal.returns
returns c = find_none (is_shallow c.args.indent) c.args.content.now c.loop-index.index (omega arith) ∙ c.loop-index.invariant
