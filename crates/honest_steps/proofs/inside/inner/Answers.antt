use Rattle.std.proofs.Common.{true, List, [], subst, ◌∙◌}
use Rattle.dp_model.specs.declared.trees.Cond.{Cond}
use Rattle.dp_model.specs.declared.parts.BaseCase.{BaseCase}
use Rattle.dp_model.specs.declared.parts.PlainState.{PlainState}
use Rattle.wide_steps.specs.Steps.{all_hold}
use Rattle.honest_states.specs.declared.mode.Narrowed.TheVariants.{Never, To}
use Rattle.honest_steps.specs.Views.{Leaves, LeavesOpen}
use Rattle.honest_steps.proofs.Law.{the_law}
use Rattle.honest_steps.proofs.Left.{inner_never, inner_to}
use Rattle.honest_steps.proofs.Tables.{ok_one}
use Rattle.honest_steps.proofs.inside.inner.Goals as goal

pub returns-in-Never : goal.returns-in-Never
returns-in-Never c =
    let leaves = rw c.in-Never.is at c.in_ok-where_all_hold.ensures in
    inner_never the_law c.args.model.now c.args.view c.args.mode.now
    (subst (λ (conditions : List Cond). Leaves c.args.model.now c.args.view c.args.mode.now (λ (x : PlainState). all_hold c.args.model.now x [] conditions) true Never) (c.deref.ensures.value ∙ c.list-constraints.ensures ∙ c.constraints.ensures) leaves)

pub returns-in-To : goal.returns-in-To
returns-in-To c =
    let leaves = rw c.in-To.is at c.in_ok-where_all_hold.ensures in
    ok_one c.where_open.result _ _ c.where_open.ensures (λ left opens.
    inner_to the_law c.args.model.now c.args.view c.args.mode.now c.in-To.allowed left
    (subst (λ (conditions : List Cond). Leaves c.args.model.now c.args.view c.args.mode.now (λ (x : PlainState). all_hold c.args.model.now x [] conditions) true (To c.in-To.allowed)) (c.deref.ensures.value ∙ c.list-constraints.ensures ∙ c.constraints.ensures) leaves)
    (subst (λ (cases : List BaseCase). LeavesOpen c.args.model.now c.args.view c.in-To.allowed cases left) (c.deref-in-To.ensures.value ∙ c.list.ensures ∙ c.base_cases.ensures) opens))
