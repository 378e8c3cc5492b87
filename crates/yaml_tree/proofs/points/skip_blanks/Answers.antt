use Rattle.std.proofs.Common.{ℕ, ap, sym, ◌∙◌, subst, IsCharBoundary}
use Rattle.std.specs.List.{prefix_len}
use Rattle.dp_base.specs.Bytes.{is_blank}
use Rattle.yaml_tree.proofs.BasePoints.{IsCharBoundary-blanks}
use Rattle.yaml_tree.proofs.points.skip_blanks.Goals as goal

pub advance-requires-clause-boundary : goal.advance-requires-clause-boundary
advance-requires-clause-boundary c =
    let here = c.args.reader.now.here in
    let count = c.leading_blanks.ensures.value ∙ ap (prefix_len is_blank) c.here.ensures.value in
    let P : ℕ → Type 0 = λ n. IsCharBoundary here n in
    subst P (sym count) (IsCharBoundary-blanks here c.here.ensures.utf8)
