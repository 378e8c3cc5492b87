use Rattle.yaml_tree.proofs.FlowMarks.{IsCharBoundary-behind_ascii}
use Rattle.yaml_tree.proofs.marks.pass_mark.Goals as goal

pub advance-requires-clause-boundary : goal.advance-requires-clause-boundary
advance-requires-clause-boundary c = IsCharBoundary-behind_ascii c.args.reader.now.here c.requires c.here-here.ensures.utf8
