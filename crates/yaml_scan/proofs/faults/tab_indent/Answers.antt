use Rattle.std.proofs.Common.{arith}
use Rattle.std.proofs.lemmas.Bool.Decides.{nat_tests}
use Rattle.yaml_scan.proofs.LineSteps.{tab_found, tab_later, tab_none}
use Rattle.yaml_scan.proofs.faults.tab_indent.Goals as goal

pub returns-in-Some-clause-value : goal.returns-in-Some-clause-value
returns-in-Some-clause-value c =
    tab_found _ _ _ _ _ _ c.split_line.ensures.first c.in-Some.ensures.value c.loop-rest.invariant.same

pub loop-rest-preserved : goal.loop-rest-preserved
loop-rest-preserved c = record {
  place = omega arith;
  same = tab_later _ _ _ _ _ c.split_line.ensures.first c.in_default.ensures.value c.loop-rest.invariant.same;
}

pub returns-clause-value : goal.returns-clause-value
returns-clause-value c = tab_none _ c.loop-rest.rest.now _ (grind (arith, nat_tests)) c.loop-rest.invariant.same
