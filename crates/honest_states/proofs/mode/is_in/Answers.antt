use Rattle.std.proofs.Common.{◌≡◌, ℕ, ◌≤◌, ◌∙◌, true, List, length, slice_get, subst}
use Rattle.honest_states.specs.declared.mode.Known.{Known}
use Rattle.honest_states.specs.Modes.{is_known}
use Rattle.honest_states.proofs.Lists.{all_below}
use Rattle.honest_states.proofs.Knowing.{variables_from}
use Rattle.honest_states.proofs.mode.is_in.Goals as goal

pub returns : goal.returns
returns c =
    let past = subst (λ (xs : List Known). length xs ≤ c.loop-i.i) (c.deref-known-items.ensures.value ∙ c.list.ensures) c.loop-i-test.false in
    λ _. variables_from c.args.mode.now.known c.args.s.now (all_below (λ (k : ℕ) (x : Known). is_known x (slice_get c.args.s.now.values k) ≡ true) c.args.mode.now.known c.loop-i.i past c.loop-i.invariant)
