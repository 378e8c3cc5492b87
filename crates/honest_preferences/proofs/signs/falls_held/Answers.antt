use Rattle.std.proofs.Common.{rules, ℤ, sym, subst, w64}
use Rattle.std.proofs.lemmas.Int.{to_z-of_z}
use mir.Val.{SFits}
use Rattle.honest_preferences.specs.Sides.{IsLowEnd}
use Rattle.honest_preferences.proofs.signs.falls_held.Goals as goal

pub returns-then-holds_no_more : goal.returns-then-holds_no_more
returns-then-holds_no_more c =
    let fits : SFits w64 c.low_end.result = search rules in
    (c.holds_no_more.ensures c.if-holds_no_more.true, subst (λ (end : ℤ). IsLowEnd c.args.at.now.model.now c.args.at.now.kept.now c.args.at.now.ends.now c.args.v end) (sym (to_z-of_z w64 c.low_end.result fits)) c.low_end.ensures)
