use Rattle.std.proofs.Common.{◌∙◌, sym, arith}
use Rattle.yaml_tree.proofs.BlockLines.{break_last, break_feed, break_nothing, break_space}
use Rattle.yaml_tree.proofs.block_scalar.break_behind.Goals as goal

pub returns-then-next-len : goal.returns-then-next-len
returns-then-next-len c = break_last c.args.style c.args.indent c.args.row.now c.args.content.now c.args.next (omega arith)

pub returns-then-not-folds : goal.returns-then-not-folds
returns-then-not-folds c =
    break_feed c.args.style c.args.indent c.args.row.now c.args.content.now c.args.next c.row-below.result c.row-below.ensures (sym c.folds.ensures ∙ c.if-not-folds.true)

pub returns-then-is_blank : goal.returns-then-is_blank
returns-then-is_blank c =
    break_nothing c.args.style c.args.indent c.args.row.now c.args.content.now c.args.next c.row-below.result c.row-below.ensures (sym c.folds.ensures ∙ c.if-not-folds.false) (sym c.is_blank.ensures ∙ c.if-is_blank.true)

pub returns-else-is_blank : goal.returns-else-is_blank
returns-else-is_blank c =
    break_space c.args.style c.args.indent c.args.row.now c.args.content.now c.args.next c.row-below.result c.row-below.ensures (sym c.folds.ensures ∙ c.if-not-folds.false) (sym c.is_blank.ensures ∙ c.if-is_blank.false)
