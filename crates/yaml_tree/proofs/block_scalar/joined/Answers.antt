use Rattle.std.proofs.Common.{◌+◌, ◌++◌, ◌∙◌, ℕ, List, drop, string_bytes, sym, ap, arith}
use Rattle.yaml_tree.specs.BlockScalars.{line_text, joined}
use Rattle.yaml_tree.proofs.BlockLines.{joined_past, joined_end}
use Rattle.yaml_tree.proofs.block_scalar.joined.Goals as goal

pub loop-index-preserved : goal.loop-index-preserved
loop-index-preserved c =
    let rows = c.args.content.now in
    let n = c.loop-index.index in
    let left : List ℕ = joined c.args.style c.args.indent (drop (n + 1) rows) in
    ap (λ (l : List ℕ). l ++ left) (c.in_ok-push_str.ensures.bytes ∙ ap (λ (l : List ℕ). l ++ c.break_behind.result.now) c.in_ok-push_line.ensures
    ∙ ap (λ (l : List ℕ). (string_bytes c.loop-index.text ++ line_text c.args.indent c.row-row.result) ++ l) c.break_behind.ensures)
    ∙ joined_past c.args.style c.args.indent rows n c.row-row.result (string_bytes c.loop-index.text) c.row-row.ensures
    ∙ c.loop-index.invariant

pub returns : goal.returns
returns c =
    sym (joined_end c.args.style c.args.indent c.args.content.now c.loop-index.index (string_bytes c.loop-index.text) (omega arith)) ∙ c.loop-index.invariant
