use Rattle.std.proofs.Common.{◌≤◌, length}
use Rattle.dp_claims.specs.Enough.{Has}
use Rattle.dom_store.specs.Chains.{older_at, row_in, places_left}
use Rattle.dom_store.specs.Past.{IsPastKept}
use Rattle.dom_store.proofs.past.drop_covered.Given as goal

-- each is stood for still, and the node is in its row, as no place is looked at but those behind its own
abbrev pub invariant-loop-next : goal.invariant-loop-next
invariant-loop-next g l = record {
  kept : IsPastKept g.K.Covers.prune g.K.Covers.minimize g.K.Covers.operator l.layout (row_in l.chains.heads.items l.chains.links.items) (length l.chains.links.items) l.kept;
  row : Has (row_in l.chains.heads.items l.chains.links.items l.key) l.place;
  low : l.last ≤ l.place;
}

abbrev pub decreases-loop-next : goal.decreases-loop-next
decreases-loop-next g l = places_left (older_at l.chains.links.items l.last)
