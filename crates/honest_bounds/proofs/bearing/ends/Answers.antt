use Rattle.std.proofs.Common.{true, [], List, subst, ◌∙◌}
use Rattle.dp_model.specs.declared.parts.PlainState.{PlainState}
use Rattle.dp_model.specs.declared.trees.Cond.{Cond}
use Rattle.wide_steps.specs.Steps.{all_hold}
use Rattle.honest_states.specs.declared.mode.Narrowed.{Narrowed}
use Rattle.honest_states.specs.declared.mode.Narrowed.TheVariants.{Never, To}
use Rattle.honest_steps.specs.Views.{Leaves}
use Rattle.honest_steps.specs.declared.views.View.TheVariants.{After}
use Rattle.honest_steps.proofs.Tables.{ok_one}
use Rattle.honest_bounds.proofs.Bears.{allowed_never, allowed_to}
use Rattle.honest_bounds.proofs.bearing.ends.Goals as goal

pub returns-in-Never : goal.returns-in-Never
returns-in-Never c =
    let same = c.deref.ensures.value ∙ c.list-constraints.ensures ∙ c.constraints.ensures in
    let leaves : Leaves c.args.model.now (After c.args.ground) c.args.mode.now (λ (x : PlainState). all_hold c.args.model.now x [] c.args.model.now.constraints) true Never =
    subst (λ (cs : List Cond). Leaves c.args.model.now (After c.args.ground) c.args.mode.now (λ (x : PlainState). all_hold c.args.model.now x [] cs) true Never) same
    (subst (λ (left : Narrowed). Leaves c.args.model.now (After c.args.ground) c.args.mode.now (λ (x : PlainState). all_hold c.args.model.now x [] c.deref.result.now) true left) c.in-Never.is c.in_ok-where_all_hold.ensures) in
    λ _. allowed_never c.args.model.now c.args.mode.now c.args.ground c.args.e.now leaves

pub returns-in-To : goal.returns-in-To
returns-in-To c =
    let same = c.deref.ensures.value ∙ c.list-constraints.ensures ∙ c.constraints.ensures in
    let leaves : Leaves c.args.model.now (After c.args.ground) c.args.mode.now (λ (x : PlainState). all_hold c.args.model.now x [] c.args.model.now.constraints) true (To c.in-To.allowed) =
    subst (λ (cs : List Cond). Leaves c.args.model.now (After c.args.ground) c.args.mode.now (λ (x : PlainState). all_hold c.args.model.now x [] cs) true (To c.in-To.allowed)) same
    (subst (λ (left : Narrowed). Leaves c.args.model.now (After c.args.ground) c.args.mode.now (λ (x : PlainState). all_hold c.args.model.now x [] c.deref.result.now) true left) c.in-To.is c.in_ok-where_all_hold.ensures) in
    ok_one c.ends_by_all.result _ _ c.ends_by_all.ensures (λ shown h yes.
    allowed_to c.args.model.now c.args.mode.now c.args.ground c.args.e.now c.in-To.allowed leaves (h yes))
