use Rattle.std.proofs.Common.{◌≡◌, true, List, map, sym, subst, ◌∙◌}
use Rattle.dp_model.specs.declared.trees.Cond.{Cond}
use Rattle.dp_model.specs.declared.trees.Over.{Over}
use Rattle.honest_preferences.specs.Leaving.{all_leave, leaves_cond, over_leaves}
use Rattle.honest_preferences.proofs.Moving.{alike}
use Rattle.honest_preferences.proofs.answering.is_alike.Goals as goal

pub returns : goal.returns
returns c = λ yes.
    let params = subst (λ (ps : List Over). all_leave (map (over_leaves c.args.at.now.kept.now) ps) ≡ true) c.params.ensures (sym c.params_leave.ensures ∙ c.if-not-params_leave.false) in
    let conditions = subst (λ (cs : List Cond). all_leave (map (leaves_cond c.args.at.now.kept.now) cs) ≡ true) c.preconditions.ensures (sym c.all_leave.ensures ∙ yes) in
    alike c.args.at.now.model.now c.args.at.now.kept.now c.args.at.now.ends.now c.args.t.now params conditions
