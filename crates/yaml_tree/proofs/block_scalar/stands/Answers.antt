use Rattle.std.proofs.Common.{◌∙◌, ◌==◌, ℕ, sym, ap, arith}
use Rattle.yaml_tree.proofs.BlockLines.{stands_past, stands_here, stands_none}
use Rattle.yaml_tree.proofs.block_scalar.stands.Goals as goal

pub loop-index-preserved : goal.loop-index-preserved
loop-index-preserved c =
    stands_past c.args.indent c.args.content.now c.loop-index.index c.row-row.result c.row-row.ensures (sym c.is_blank.ensures ∙ c.if-not-is_blank.false) ∙ c.loop-index.invariant

pub returns-then-not-is_blank : goal.returns-then-not-is_blank
returns-then-not-is_blank c =
    ap (λ (n : ℕ). n == c.args.indent) c.indent.ensures
    ∙ stands_here c.args.indent c.args.content.now c.loop-index.index c.row-row.result c.row-row.ensures (sym c.is_blank.ensures ∙ c.if-not-is_blank.true) ∙ c.loop-index.invariant

pub returns : goal.returns
returns c = stands_none c.args.indent c.args.content.now c.loop-index.index (omega arith) ∙ c.loop-index.invariant
