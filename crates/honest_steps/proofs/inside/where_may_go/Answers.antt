use Rattle.std.proofs.Common.{true, List, subst, ◌∙◌}
use Rattle.dp_model.specs.declared.trees.Cond.{Cond}
use Rattle.dp_model.specs.declared.trees.Over.{Over}
use Rattle.dp_model.specs.declared.parts.PlainState.{PlainState}
use Rattle.dp_steps.specs.States.{are_members}
use Rattle.wide_steps.specs.Steps.{all_hold}
use Rattle.honest_states.specs.declared.mode.Narrowed.TheVariants.{Never, To}
use Rattle.honest_steps.specs.Views.{Leaves}
use Rattle.honest_steps.specs.declared.views.View.TheVariants.{Here}
use Rattle.honest_steps.proofs.Left.{go_never, go_to}
use Rattle.honest_steps.proofs.Tables.{ok_one}
use Rattle.honest_steps.proofs.inside.where_may_go.Goals as goal

pub returns-in-Never : goal.returns-in-Never
returns-in-Never c =
    let leaves = rw c.in-Never.is at c.in_ok-where_members.ensures in
    go_never c.args.model.now c.args.mode.now (c.args.transition.now, c.args.args.now)
    (subst (λ (params : List Over). Leaves c.args.model.now Here c.args.mode.now (λ (x : PlainState). are_members x params c.args.args.now) true Never) (c.deref.ensures.value ∙ c.list.ensures ∙ c.params.ensures) leaves)

pub returns-in-To : goal.returns-in-To
returns-in-To c =
    let leaves = rw c.in-To.is at c.in_ok-where_members.ensures in
    ok_one c.where_all_hold.result _ _ c.where_all_hold.ensures (λ all holds.
    go_to c.args.model.now c.args.mode.now (c.args.transition.now, c.args.args.now) c.in-To.left all
    (subst (λ (params : List Over). Leaves c.args.model.now Here c.args.mode.now (λ (x : PlainState). are_members x params c.args.args.now) true (To c.in-To.left)) (c.deref.ensures.value ∙ c.list.ensures ∙ c.params.ensures) leaves)
    (subst (λ (conditions : List Cond). Leaves c.args.model.now Here c.in-To.left (λ (x : PlainState). all_hold c.args.model.now x c.args.args.now conditions) true all)
    (c.deref-in-To.ensures.value ∙ c.list-preconditions.ensures ∙ c.preconditions.ensures) holds))
