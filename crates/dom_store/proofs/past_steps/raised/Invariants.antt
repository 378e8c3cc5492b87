use Rattle.std.proofs.Common.{◌≡◌, ℕ, Some}
use Rattle.dom_store.specs.Chains.{chain_from, row_in, places_left}
use Rattle.dom_store.proofs.Under.{AreLeftUnder}
use Rattle.dom_store.proofs.past_steps.raised.Given as goal

-- the steps are of this row or of none, and what is kept at a place of it is at one that is left, or is under a step
abbrev pub invariant-loop-next : goal.invariant-loop-next
invariant-loop-next g l = record {
  row : (k : ℕ) → l.stairs.row ≡ Some k → k ≡ l.key;
  left : l.stairs.row ≡ Some l.key → AreLeftUnder g.K.Covers.prune g.K.Covers.minimize g.K.Covers.operator l.layout (row_in l.chains.heads.items l.chains.links.items l.key) l.stairs.steps l.kept (chain_from l.chains.links.items l.next);
}

abbrev pub decreases-loop-next : goal.decreases-loop-next
decreases-loop-next g l = places_left l.next
