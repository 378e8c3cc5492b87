use Rattle.std.proofs.Common.{sym}
use Rattle.yaml_scan.proofs.PieceSteps.{cut-at_feed, cut-at_end}
use Rattle.yaml_scan.proofs.pieces.split_line.Goals as goal

pub returns-in-Some-clause-first : goal.returns-in-Some-clause-first
returns-in-Some-clause-first c =
    rw (c.split_at.ensures.front, c.split_at.ensures.back) (cut-at_feed c.args.bytes.now c.in-Some.feed (sym c.in-Some.ensures.value))

pub returns-in-None-clause-first : goal.returns-in-None-clause-first
returns-in-None-clause-first c =
    rw (c.split_at-in-None.ensures.front, c.split_at-in-None.ensures.back) (cut-at_end c.args.bytes.now (sym c.in-None.ensures.value) c.requires)
