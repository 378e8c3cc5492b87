use Rattle.std.proofs.Common.{rules, ℕ, List, pos, ◌≤ℤ◌, ◌∙◌, subst}
use Rattle.ring_laws.proofs.Ring.{times_down}
use Rattle.poly_terms.specs.Worth.{product}
use Rattle.honest_states.proofs.Lists.{if_some}
use Rattle.honest_states.proofs.absorbing.bit_for.Goals as goal

pub returns-then-term-lt0 : goal.returns-then-term-lt0
returns-then-term-lt0 c =
    let low : c.args.term.now.coefficient ≤ℤ pos 0 = search rules in
    if_some c.bit_among.result _ _ c.bit_among.ensures (λ atom h v fits.
    times_down c.args.term.now.coefficient (product v c.args.term.now.atoms) (v atom) low
    (subst (λ (zs : List ℕ). product v zs ≤ℤ v atom) (c.deref.ensures.value ∙ c.list.ensures) (h v fits)))
