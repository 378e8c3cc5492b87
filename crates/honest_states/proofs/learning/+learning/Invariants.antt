use Rattle.std.proofs.Common.{ℕ, ℤ, pos, ◌≤ℤ◌, ◌+◌, ◌*◌}
use Rattle.poly_terms.specs.Worth.{worth}
use Rattle.poly_terms.specs.Fits.{Fits}
use Rattle.honest_states.specs.Facts.{AreFacts}
use Rattle.honest_states.proofs.learning.+learning.Given as goal

abbrev pub invariant-learn-loop-atom : goal.invariant-learn-loop-atom
invariant-learn-loop-atom l = (v : ℕ → ℤ) → Fits l.table v → worth v l.sum ≤ℤ pos 0 → AreFacts v l.fn.told → AreFacts v l.told

abbrev pub decreases-learn : goal.decreases-learn
decreases-learn l = 3 * l.depth + 2

abbrev pub decreases-learn_bit : goal.decreases-learn_bit
decreases-learn_bit l = 3 * l.depth + 1

abbrev pub decreases-learn_truth : goal.decreases-learn_truth
decreases-learn_truth l = 3 * l.depth + 3
