use Rattle.std.proofs.Common.{◌≡◌, true, List, map, sym, subst, ◌∙◌}
use Rattle.dp_model.specs.declared.trees.Cond.{Cond}
use Rattle.dp_model.specs.declared.trees.Num.{Num}
use Rattle.honest_preferences.specs.Effects.{CostsNoMore}
use Rattle.honest_preferences.specs.Leaving.{all_leave, leaves_cond}
use Rattle.honest_preferences.proofs.Conditions.{all_same}
use Rattle.honest_preferences.proofs.Satisfied.{case_answered}
use Rattle.honest_preferences.proofs.simulating.case_is_answered.Goals as goal

pub returns-then-all_leave : goal.returns-then-all_leave
returns-then-all_leave c = λ yes.
    let m = c.args.at.now.model.now in
    let kept = c.args.at.now.kept.now in
    let ends = c.args.at.now.ends.now in
    let leave = subst (λ (cs : List Cond). all_leave (map (leaves_cond kept) cs) ≡ true) c.conditions.ensures (sym c.all_leave.ensures ∙ c.if-all_leave.true) in
    case_answered m kept ends c.args.case.now (λ s other p given. all_same m kept ends s other p c.args.case.now.conditions leave given)
    (subst (λ (e : Num). CostsNoMore m kept ends e) c.cost.ensures (c.costs_no_more.ensures yes))
