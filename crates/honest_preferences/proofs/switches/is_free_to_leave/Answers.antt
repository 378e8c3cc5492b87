use Rattle.std.proofs.Common.{sym, ◌∙◌}
use Rattle.honest_preferences.proofs.Switching.{leave_some}
use Rattle.honest_preferences.proofs.switches.is_free_to_leave.Goals as goal

pub returns-in-Some : goal.returns-in-Some
returns-in-Some c = λ yes. leave_some c.args.at.now.model.now c.args.at.now.kept.now c.args.at.now.ends.now c.args.t.now c.in-Some.e (sym c.weight.ensures ∙ c.in-Some.is) (c.weighs_down.ensures yes)
