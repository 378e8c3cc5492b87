use Rattle.yaml_scan.proofs.PieceSteps.{end_is_return_feed, end_is_feed, end_is_none}
use Rattle.yaml_scan.proofs.pieces.without_end.Goals as goal

pub returns-then-ends_with-clause-value : goal.returns-then-ends_with-clause-value
returns-then-ends_with-clause-value c = end_is_return_feed _ c.if-ends_with.ensures.value

pub returns-then-ends_with-2-clause-value : goal.returns-then-ends_with-2-clause-value
returns-then-ends_with-2-clause-value c = end_is_feed _ c.if-ends_with.ensures.value c.if-ends_with-2.ensures.value

pub returns-else-ends_with-2-clause-value : goal.returns-else-ends_with-2-clause-value
returns-else-ends_with-2-clause-value c = end_is_none _ c.if-ends_with-2.ensures.value
