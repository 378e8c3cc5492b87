use Rattle.std.proofs.Common.{◌≡◌, ℕ, ◌<◌, ◌≤◌, length}
use Rattle.state_layout.specs.declared.node.Node.{Node}
use Rattle.dom_store.specs.Packing.{ComeFrom}
use Rattle.dom_store.specs.Places.{nodes_of, StandsAt}
use Rattle.dom_store.proofs.packing.move_together.Given as goal

-- the nodes are there in their order, each has come from a place, and none stands between those that have moved and those that have not
abbrev pub invariant-loop-place : goal.invariant-loop-place
invariant-loop-place l = record {
  nodes : nodes_of l.places.items ≡ nodes_of l.initial.places.items;
  from : ComeFrom l.initial.places.items l.initial.glances.items l.initial.chains.links.items l.places.items l.glances.items l.chains.links.items;
  low : l.count ≤ l.place;
  empty : (p : ℕ) (n : Node) → l.count ≤ p → p < l.place → StandsAt l.places.items p n → ⊥;
  long : length l.places.items ≡ length l.initial.places.items;
  level : length l.glances.items ≡ length l.places.items;
  linked : length l.chains.links.items ≡ length l.places.items;
  buckets : length l.chains.heads.items ≡ length l.initial.chains.heads.items;
}
