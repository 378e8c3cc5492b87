use Rattle.std.proofs.Common.{ℕ, ℤ, drop, ◌+ℤ◌, ◌≤ℤ◌}
use Rattle.poly_terms.specs.Worth.{worth}
use Rattle.poly_terms.specs.Fits.{Fits}
use Rattle.honest_states.proofs.absorbing.absorbed.Given as goal

abbrev pub invariant-loop-term : goal.invariant-loop-term
invariant-loop-term l = (v : ℕ → ℤ) → Fits l.table v → (worth v l.less.items +ℤ worth v (drop l.term-index l.terms)) ≤ℤ worth v l.terms
