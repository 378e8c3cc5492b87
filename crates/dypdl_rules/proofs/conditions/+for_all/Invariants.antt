use Rattle.std.proofs.Common.{length}
use Rattle.dypdl_rules.proofs.conditions.+for_all.Given as goal

abbrev pub decreases-for_all : goal.decreases-for_all
decreases-for_all l = length l.params.now
