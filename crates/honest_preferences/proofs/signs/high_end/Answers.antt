use Rattle.std.proofs.Common.{rules, ℤ, sym, subst, w64}
use Rattle.std.proofs.lemmas.Int.{to_z-of_z}
use mir.Val.{SFits}
use Rattle.honest_preferences.specs.Sides.{IsHighEnd}
use Rattle.honest_preferences.proofs.Numbers.{high_any, high_kept}
use Rattle.honest_preferences.proofs.signs.high_end.Goals as goal

pub returns-in-None : goal.returns-in-None
returns-in-None c = high_any c.args.at.now.model.now c.args.at.now.kept.now c.args.at.now.ends.now c.args.v

pub returns-in-Some : goal.returns-in-Some
returns-in-Some c =
    let fits : SFits w64 c.in-Some.end = search rules in
    let x = c.prefers_greater.ensures c.in-Some.ensures.0 in
    subst (λ (end : ℤ). IsHighEnd c.args.at.now.model.now c.args.at.now.kept.now c.args.at.now.ends.now c.args.v end) (sym (to_z-of_z w64 c.in-Some.end fits)) (high_kept c.args.at.now.model.now c.args.at.now.kept.now c.args.at.now.ends.now c.args.v x.0 c.in-Some.end x.1 x.2 c.in-Some.ensures.1 c.in-Some.ensures.2)
