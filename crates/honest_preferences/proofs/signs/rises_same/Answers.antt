use Rattle.std.proofs.Common.{sym, ◌∙◌}
use Rattle.honest_preferences.proofs.Binding.{if_some}
use Rattle.honest_preferences.proofs.Numbers.{rises_same}
use Rattle.honest_preferences.proofs.signs.rises_same.Goals as goal

pub returns-then-leaves_num : goal.returns-then-leaves_num
returns-then-leaves_num c = if_some c.highest.result _ _ c.highest.ensures (λ end h. rises_same c.args.at.now.model.now c.args.at.now.kept.now c.args.at.now.ends.now c.args.e.now end (sym c.leaves_num.ensures ∙ c.if-leaves_num.true) h)
