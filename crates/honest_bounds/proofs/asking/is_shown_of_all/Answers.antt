use Rattle.std.proofs.Common.{ℕ, ◌<◌, length}
use Rattle.honest_states.specs.declared.mode.Mode.{Mode}
use Rattle.honest_states.proofs.Lists.{all_below, item_at, one_further}
use Rattle.honest_bounds.specs.Steps.{IsShown}
use Rattle.honest_bounds.proofs.asking.is_shown_of_all.Goals as goal

pub loop-mode-preserved : goal.loop-mode-preserved
loop-mode-preserved c = λ j mode g lt at low.
    one_further (λ (k : ℕ) (x : Mode). (h : ℕ) → h < length c.args.model.now.dp_ground → IsShown c.args.model.now c.args.modes.now c.args.asked x h) c.args.modes.now c.loop-mode.mode-index c.mode-item.result
    (item_at c.args.modes.now c.loop-mode.mode-index c.mode-item.result c.loop-mode-test.true c.mode-item.is) (c.in_ok-is_shown_of.ensures c.if-not-branch.false)
    (λ k x less is h below. c.loop-mode.invariant k x h less is below) j mode lt at g low

pub returns : goal.returns
returns c = λ _ j mode g at low.
    all_below (λ (k : ℕ) (x : Mode). (h : ℕ) → h < length c.args.model.now.dp_ground → IsShown c.args.model.now c.args.modes.now c.args.asked x h) c.args.modes.now c.loop-mode.mode-index c.loop-mode-test.false
    (λ k x less is h below. c.loop-mode.invariant k x h less is below) j mode at g low
