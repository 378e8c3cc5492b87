use Rattle.dypdl_rules.proofs.conditions.+condition_within.Given as goal

abbrev pub decreases-condition_within : goal.decreases-condition_within
decreases-condition_within l = l.levels
