use Rattle.std.proofs.Common.{sym, subst}
use Rattle.honest_preferences.specs.Effects.{StaysWithin}
use Rattle.honest_preferences.proofs.effects.stays_within.Goals as goal

pub returns-then-is_kept : goal.returns-then-is_kept
returns-then-is_kept c = λ yes. subst (StaysWithin c.args.at.now.model.now c.args.at.now.kept.now c.args.at.now.ends.now) (sym c.in-Number.is) (c.sets_within.ensures yes)
