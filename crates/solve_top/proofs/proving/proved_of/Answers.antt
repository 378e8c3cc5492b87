use Rattle.std.proofs.Common.{◌≡◌, Some, List, slice_get, ap, subst}
use Rattle.dp_model.specs.declared.trees.Num.{Num}
use Rattle.solve_top.specs.Parts.{part_lines}
use Rattle.solve_top.proofs.proving.proved_of.Goals as goal

pub returns : goal.returns
returns c = (
  Some c.in_ok-kept.kept,
  (
    c.in_ok-kept.ensures.honest,
    c.in_ok-model.ensures,
    λ i e at. c.in_ok-kept.ensures.numbers i e (subst (λ (es : List Num). slice_get es i ≡ Some e) c.in_ok-model.ensures.bounds at),
  ),
  ap part_lines c.in_ok-parts.ensures,
)
