use Rattle.std.proofs.Common.{sym, ◌∙◌}
use Rattle.honest_preferences.proofs.easing.both_leave.Goals as goal

pub returns : goal.returns
returns c = λ yes. let h = c.both.ensures yes in (sym c.leaves_num.ensures ∙ h.0, sym c.leaves_num-2.ensures ∙ h.1)
