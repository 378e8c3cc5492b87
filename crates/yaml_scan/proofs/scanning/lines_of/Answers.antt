use Rattle.std.proofs.Common.{arith}
use Rattle.std.proofs.lemmas.Bool.Decides.{nat_tests}
use Rattle.yaml_scan.proofs.LineSteps.{lines_more, lines_none}
use Rattle.yaml_scan.proofs.scanning.lines_of.Goals as goal

pub loop-rest-preserved : goal.loop-rest-preserved
loop-rest-preserved c = record {
  place = omega arith;
  counted = omega arith;
  same = rw (c.in_ok-push.ensures.items, c.line_at.ensures) (lines_more _ _ _ _ _ _ _ c.split_line.ensures.first c.loop-rest.invariant.same);
}

pub returns : goal.returns
returns c = lines_none _ _ c.loop-rest.rest.now _ _ (grind (arith, nat_tests)) c.loop-rest.invariant.same
