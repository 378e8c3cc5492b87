use Rattle.std.proofs.Common.{true, [], List, subst, ◌∙◌}
use Rattle.dp_model.specs.declared.parts.PlainState.{PlainState}
use Rattle.dp_model.specs.declared.trees.Cond.{Cond}
use Rattle.dp_model.specs.declared.trees.Num.{Num}
use Rattle.wide_steps.specs.Steps.{all_hold}
use Rattle.honest_states.specs.declared.mode.Narrowed.{Narrowed}
use Rattle.honest_states.specs.declared.mode.Narrowed.TheVariants.{Never, To}
use Rattle.honest_steps.specs.Views.{Leaves}
use Rattle.honest_steps.specs.declared.views.View.TheVariants.{After}
use Rattle.honest_steps.proofs.Tables.{ok_one}
use Rattle.honest_bounds.specs.Steps.{Bears}
use Rattle.honest_bounds.proofs.Bears.{ends_never, ends_to}
use Rattle.honest_bounds.proofs.bearing.ends_by.Goals as goal

pub returns-in-Never : goal.returns-in-Never
returns-in-Never c =
    let same = c.deref.ensures.value ∙ c.list-conditions.ensures ∙ c.conditions.ensures in
    let leaves : Leaves c.args.model.now (After c.args.ground) c.args.mode.now (λ (x : PlainState). all_hold c.args.model.now x [] c.args.case.now.conditions) true Never =
    subst (λ (cs : List Cond). Leaves c.args.model.now (After c.args.ground) c.args.mode.now (λ (x : PlainState). all_hold c.args.model.now x [] cs) true Never) same
    (subst (λ (left : Narrowed). Leaves c.args.model.now (After c.args.ground) c.args.mode.now (λ (x : PlainState). all_hold c.args.model.now x [] c.deref.result.now) true left) c.in-Never.is c.in_ok-where_all_hold.ensures) in
    λ _. ends_never c.args.model.now c.args.mode.now c.args.ground c.args.e.now c.args.case.now leaves

pub returns-in-To : goal.returns-in-To
returns-in-To c =
    let same = c.deref.ensures.value ∙ c.list-conditions.ensures ∙ c.conditions.ensures in
    let leaves : Leaves c.args.model.now (After c.args.ground) c.args.mode.now (λ (x : PlainState). all_hold c.args.model.now x [] c.args.case.now.conditions) true (To c.in-To.inside) =
    subst (λ (cs : List Cond). Leaves c.args.model.now (After c.args.ground) c.args.mode.now (λ (x : PlainState). all_hold c.args.model.now x [] cs) true (To c.in-To.inside)) same
    (subst (λ (left : Narrowed). Leaves c.args.model.now (After c.args.ground) c.args.mode.now (λ (x : PlainState). all_hold c.args.model.now x [] c.deref.result.now) true left) c.in-To.is c.in_ok-where_all_hold.ensures) in
    ok_one c.bears.result _ _ c.bears.ensures (λ shown h yes.
    ends_to c.args.model.now c.args.mode.now c.args.ground c.args.e.now c.args.case.now c.in-To.inside leaves
    (subst (λ (cost : Num). Bears c.args.model.now c.in-To.inside c.args.ground c.args.e.now cost) c.cost.ensures (h yes)))
