use Rattle.std.proofs.Common.{rules, ◌≡◌, FitsSigned, ℤ, pos, List, subst, w64}
use Rattle.std.specs.Prelude.{◌+ℤ◌}
use Rattle.std.proofs.lemmas.Int.{to_z-of_z}
use Rattle.dp_model.specs.declared.trees.Cond.{Cond}
use Rattle.honest_preferences.specs.Switches.{HasSwitch, IsRaise}
use Rattle.honest_preferences.proofs.Switching.{switched}
use Rattle.honest_preferences.proofs.switches.is_switched.Goals as goal

pub returns-in-Some-checked_add : goal.returns-in-Some-checked_add
returns-in-Some-checked_add c = λ yes.
    let limit = c.in-Some-checked_add.limit in
    let fits : FitsSigned w64 limit = search rules in
    let up : limit ≡ (c.in-Some.test.number +ℤ pos 1) = search rules in
    let has = subst (λ (cs : List Cond). HasSwitch c.args.at.now.model.now c.args.at.now.kept.now cs c.in-Some.test.variable c.in-Some.test.number) c.preconditions.ensures c.in-Some.ensures in
    let raise = subst (λ (z : ℤ). IsRaise c.args.at.now.model.now c.args.at.now.kept.now c.args.at.now.ends.now c.args.t.now c.in-Some.test.variable z) (to_z-of_z w64 limit fits) (c.raises_to.ensures yes) in
    switched c.args.at.now.model.now c.args.at.now.kept.now c.args.at.now.ends.now c.args.t.now c.in-Some.test.variable c.in-Some.test.number limit has up raise
