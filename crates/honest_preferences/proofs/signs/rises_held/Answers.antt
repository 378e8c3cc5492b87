use Rattle.std.proofs.Common.{rules, ℤ, sym, subst, w64}
use Rattle.std.proofs.lemmas.Int.{to_z-of_z}
use mir.Val.{SFits}
use Rattle.honest_preferences.specs.Sides.{IsHighEnd}
use Rattle.honest_preferences.proofs.signs.rises_held.Goals as goal

pub returns-then-holds_no_less : goal.returns-then-holds_no_less
returns-then-holds_no_less c =
    let fits : SFits w64 c.high_end.result = search rules in
    (c.holds_no_less.ensures c.if-holds_no_less.true, subst (λ (end : ℤ). IsHighEnd c.args.at.now.model.now c.args.at.now.kept.now c.args.at.now.ends.now c.args.v end) (sym (to_z-of_z w64 c.high_end.result fits)) c.high_end.ensures)
