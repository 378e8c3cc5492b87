use Rattle.std.proofs.Common.{length, ◌-◌, ◌≡◌, ◌≤◌, false, take, drop, ◌++◌}
use Rattle.yaml_tree.specs.Scalars.{run_of}
use Rattle.yaml_tree.proofs.plain.part.run_length.Given as goal

abbrev pub invariant-loop-at : goal.invariant-loop-at
invariant-loop-at l = record {
  within : l.at ≤ length l.here;
  run : run_of l.flow false l.here ≡ take l.at l.here ++ run_of l.flow l.behind_blank (drop l.at l.here);
}

abbrev pub decreases-loop-at : goal.decreases-loop-at
decreases-loop-at l = length l.here - l.at
