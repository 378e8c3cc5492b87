use Rattle.std.proofs.Common.{◌≡◌, true, List, sym, subst, ◌∙◌}
use Rattle.honest_states.specs.declared.mode.Known.{Known}
use Rattle.honest_states.specs.Modes.{are_known}
use Rattle.honest_states.proofs.joining.joined.Goals as goal

pub returns-clause-first : goal.returns-clause-first
returns-clause-first c = λ s h.
    subst (λ (xs : List Known). are_known xs 0 s ≡ true) (sym c.of.ensures)
    (c.in_ok-both.ensures.first s (subst (λ (xs : List Known). are_known xs 0 s ≡ true) (sym (c.deref.ensures.value ∙ c.list.ensures)) h))

pub returns-clause-second : goal.returns-clause-second
returns-clause-second c = λ s h.
    subst (λ (xs : List Known). are_known xs 0 s ≡ true) (sym c.of.ensures)
    (c.in_ok-both.ensures.second s (subst (λ (xs : List Known). are_known xs 0 s ≡ true) (sym (c.deref-2.ensures.value ∙ c.list-2.ensures)) h))
