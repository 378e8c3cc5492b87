use Rattle.std.proofs.Common.{sym, ap, ◌∙◌}
use Rattle.yaml_tree.specs.Characters.{begins}
use Rattle.yaml_tree.proofs.BasePoints.{IsCharBoundary-behind}
use Rattle.yaml_tree.proofs.marks.end_turn.Goals as goal

pub advance-requires-clause-boundary : goal.advance-requires-clause-boundary
advance-requires-clause-boundary g c =
    IsCharBoundary-behind c.args.close c.args.reader.now.here (ap (begins c.args.close) (sym c.here-2.ensures.value) ∙ sym c.if-begins-2.ensures) c.requires c.here.ensures.utf8
