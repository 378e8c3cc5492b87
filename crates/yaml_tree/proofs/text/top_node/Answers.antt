-- The node in the first line, and what stands below it.
use Rattle.std.proofs.Common.{ℕ, ap, Result, Ok, Err, IfErr, sym, subst, ◌∙◌}
use Rattle.std.proofs.lemmas.Result.{err_from_is_err_and}
use Rattle.dp_base.proofs.Memory.{memory_or, memory_or-from}
use Rattle.yaml_tree.specs.Blocks.{BlockNode}
use Rattle.yaml_tree.specs.Texts.{most_levels, stray_line, TopNode}
use Rattle.yaml_tree.specs.Results.{is_memory, MemoryOr}
use Rattle.yaml_tree.specs.declared.tree.Tree.{Tree}
use Rattle.yaml_tree.specs.declared.tree.YamlEnd.{YamlEnd}
use Rattle.yaml_tree.proofs.BaseText.{top-node, whole_text-none, whole_text-some}
use Rattle.yaml_tree.proofs.text.top_node.Goals as goal

pub returns-in_err-tree-clause-refused : goal.returns-in_err-tree-clause-refused
returns-in_err-tree-clause-refused c =
    let p = err_from_is_err_and c.from_residual.result c.from_residual.ensures.1 in
    let r = c.args.reader.now in
    let at_first = sym c.row.ensures ∙ c.in-Some.is in
    let Read : YamlEnd → Type 0 = λ e. BlockNode most_levels 0 c.enter.new.self (Err e) in
    let Q : YamlEnd → Type 0 = λ e. TopNode r.file r r.below (Err e) in
    let IsRefused : Result Tree YamlEnd → Type 0 = λ x. IfErr x (MemoryOr Q) in
    let R : YamlEnd → Type 0 = λ e. MemoryOr Q e in
    subst IsRefused (sym p.1) (subst R (sym p.2)
    (memory_or is_memory Read Q
    (λ e read. top-node r.file r c.enter.new.self r.below c.in-Some.first (Err e) at_first (sym c.is_marker.ensures ∙ c.if-is_marker.false) (c.enter.ensures c.in-Some.first at_first) read)
    c.in_err-tree.field-0.0 c.in_err-tree.ensures.refused))

pub returns-in-None-clause-read : goal.returns-in-None-clause-read
returns-in-None-clause-read c =
    let r = c.args.reader.now in
    let left = c.node.new.reader in
    let P : Result Tree YamlEnd → Type 0 = λ outcome. TopNode r.file r r.below outcome in
    let at_first = sym c.row.ensures ∙ c.in-Some.is in
    subst P (whole_text-none r.file c.in_ok-tree.tree left (sym c.row-2.ensures ∙ c.in-None.is))
    (top-node r.file r c.enter.new.self r.below c.in-Some.first (Ok (c.in_ok-tree.tree, left)) at_first (sym c.is_marker.ensures ∙ c.if-is_marker.false) (c.enter.ensures c.in-Some.first at_first) c.in_ok-tree.ensures.read)

pub returns-in-Some-row-clause-refused : goal.returns-in-Some-row-clause-refused
returns-in-Some-row-clause-refused c =
    let r = c.args.reader.now in
    let left = c.node.new.reader in
    let P : Result Tree YamlEnd → Type 0 = λ outcome. TopNode r.file r r.below outcome in
    let at_first = sym c.row.ensures ∙ c.in-Some.is in
    let whole = subst P (whole_text-some r.file c.in_ok-tree.tree left c.in-Some-row.row (sym c.row-2.ensures ∙ c.in-Some-row.is))
    (top-node r.file r c.enter.new.self r.below c.in-Some.first (Ok (c.in_ok-tree.tree, left)) at_first (sym c.is_marker.ensures ∙ c.if-is_marker.false) (c.enter.ensures c.in-Some.first at_first) c.in_ok-tree.ensures.read) in
    let Q : YamlEnd → Type 0 = λ e. TopNode r.file r r.below (Err e) in
    let R : YamlEnd → Type 0 = λ e. MemoryOr Q e in
    let refusal = c.stray_line.ensures ∙ ap (λ (file : ℕ). stray_line file c.in-Some-row.row) c.file-file.ensures in
    subst R (sym refusal) (memory_or-from is_memory Q (stray_line r.file c.in-Some-row.row) whole)
