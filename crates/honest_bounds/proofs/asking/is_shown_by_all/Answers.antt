use Rattle.std.proofs.Common.{◌≡◌, ℕ, length, ap, subst, ◌∙◌}
use borrow.Author.Count.{below_more}
use Rattle.honest_bounds.specs.Steps.{IsShown}
use Rattle.honest_bounds.proofs.Narrowing.{less_than}
use Rattle.honest_bounds.proofs.asking.is_shown_by_all.Goals as goal

pub loop-place-preserved : goal.loop-place-preserved
loop-place-preserved c =
    below_more (λ (g : ℕ). IsShown c.args.model.now c.args.modes.now c.args.asked c.args.mode.now g) c.loop-place.place c.loop-place.invariant
    (subst (λ (g : ℕ). IsShown c.args.model.now c.args.modes.now c.args.asked c.args.mode.now g) c.in-Ok.ensures.1 (c.in_ok-is_shown.ensures c.if-not-branch.false))

pub returns : goal.returns
returns c = λ _ g lt.
    let many : c.len-place-end.result ≡ length c.args.model.now.dp_ground = c.len-place-end.ensures ∙ c.list.result.now.ok.0 ∙ ap length (c.list.ensures ∙ c.ground.ensures) in
    c.loop-place.invariant g (less_than g (length c.args.model.now.dp_ground) c.len-place-end.result c.loop-place.place lt many c.loop-place-test.false)
