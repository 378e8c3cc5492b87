use Rattle.std.proofs.Common.{◌≡◌, ℕ, ℤ, true}
use Rattle.poly_terms.specs.Worth.{worth}
use Rattle.poly_terms.specs.Fits.{Fits}
use Rattle.honest_states.specs.Modes.{is_from}
use Rattle.honest_states.specs.Facts.{AreFacts}
use Rattle.honest_states.proofs.narrowing.low_of.Given as goal

abbrev pub invariant-loop-sum : goal.invariant-loop-sum
invariant-loop-sum l = (v : ℕ → ℤ) → Fits l.table v → AreFacts v l.told → is_from l.fn.low (worth v l.x) ≡ true → is_from l.end (worth v l.x) ≡ true
