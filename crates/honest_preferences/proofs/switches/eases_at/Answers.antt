use Rattle.honest_preferences.proofs.Switching.{eases_still, test_eases}
use Rattle.honest_preferences.proofs.switches.eases_at.Goals as goal

pub returns-then-is_test_of : goal.returns-then-is_test_of
returns-then-is_test_of c = λ yes. let test = c.is_test_of.ensures c.if-is_test_of.true in test_eases c.args.at.now.model.now c.args.at.now.kept.now c.args.at.now.ends.now c.args.v test.0 c.args.c.now (test.1 c.args.at.now.model.now)

pub returns-else-is_test_of : goal.returns-else-is_test_of
returns-else-is_test_of c = λ yes. eases_still c.args.at.now.model.now c.args.at.now.kept.now c.args.at.now.ends.now c.args.v c.args.c.now (c.eases.ensures yes)
