use Rattle.std.proofs.Common.{◌≡◌, true, subst}
use Rattle.std.proofs.lemmas.List.Folds.{list_any_at}
use Rattle.honest_states.specs.Modes.{in_mode}
use Rattle.honest_states.specs.declared.mode.Mode.{Mode}
use Rattle.honest_bounds.proofs.bearing.are_in_some.Goals as goal

pub returns-then-branch : goal.returns-then-branch
returns-then-branch c = λ _ v s fits shows.
    list_any_at (λ (mode : Mode). in_mode mode s) c.args.modes.now c.loop-mode.mode-index c.mode-item.result c.loop-mode-test.true
    (subst (λ (x : Mode). in_mode x s ≡ true) c.mode-item.is (c.in_ok-are_within.ensures c.if-branch.true v s fits shows))
