-- The layers that are not closed.
use Rattle.std.specs.Prelude.{◌≡◌, ℕ, ◌≤◌, ◌⊎◌, Bool, false, List, [], ◌++◌, length, slice_get, Option, Some, None}
use Rattle.dp_claims.specs.Enough.{Has}
use Rattle.state_layout.specs.Conditions.{IsNodeFor}
use Rattle.state_layout.specs.declared.layout.Layout.{Layout}
use Rattle.state_layout.specs.declared.node.Node.{Node}
use Rattle.dom_store.specs.Contents.{with_nodes, IsCovered, Apart}
use Rattle.dom_store.specs.Order.{IsLeastFloor}
use Rattle.dom_store.specs.Past.{IsPast}
use Rattle.dom_store.specs.declared.past_node.PastNode.{PastNode}
use Rattle.dom_store.specs.declared.taking.Taken.{Taken}
use Rattle.pass_ledger.specs.Passes.{Pass}
use Rattle.shard_core.specs.declared.layers.Layer.{Layer}

module _ {B : Type 0} where
  -- the nodes of the store, and those that wait to be added to it
  abbrev pub nodes_of : Option (Layer B) → List Node
  nodes_of None = []
  nodes_of (Some layer) = layer.nodes.nodes ++ layer.pending.items

  -- the nodes that the layer has once those that wait are added to the store's, one after another
  abbrev pub joined : (Node → Node → Bool) → Option (Layer B) → List Node
  joined test None = []
  joined test (Some layer) = with_nodes test layer.nodes.nodes layer.pending.items

  abbrev pub busy_of : Option (Layer B) → Bool
  busy_of None = false
  busy_of (Some layer) = layer.busy

  -- the nodes of the layer at a place, those that it has once all are added, and whether some shard has states of it
  abbrev pub nodes_at : List (Layer B) → ℕ → List Node
  nodes_at layers d = nodes_of (slice_get layers d)

  abbrev pub joined_at : (Node → Node → Bool) → List (Layer B) → ℕ → List Node
  joined_at test layers d = joined test (slice_get layers d)

  abbrev pub busy_at : List (Layer B) → ℕ → Bool
  busy_at layers d = busy_of (slice_get layers d)

  -- the store is of the layout, and those that wait are nodes for it
  abbrev pub IsOf : Layout → Layer B → Type 0
  IsOf layout layer = (layer.nodes.layout ≡ layout) × ((n : Node) → Has layer.pending.items n → IsNodeFor layout n)

  -- all layers are of one layout
  abbrev pub AreOf : Layout → List (Layer B) → Type 0
  AreOf layout layers = (d : ℕ) (x : Layer B) → slice_get layers d ≡ Some x → IsOf layout x

-- A node is merged into others: it is covered then, and so is what was covered.
pub record Merges (p : Pass) (old : List Node) (node : Node) (new : List Node) : Type 0 where
  pub only : (n : Node) → Has new n → Has old n ⊎ (n ≡ node)
  pub kept : (n : Node) → IsCovered p.model p.prune old n → IsCovered p.model p.prune new n
  pub added : IsCovered p.model p.prune new node

-- The nodes of a layer are shared out: those that the past covers are gone, of the others at most the share is kept, and the
-- rest is dropped.
pub record Splits (p : Pass) (share : ℕ) (past : List PastNode) (nodes : List Node) (taken : Taken) : Type 0 where
  pub from : (n : Node) → Has (taken.kept ++ taken.dropped) n → Has nodes n
  pub news : (n : Node) → Has (taken.kept ++ taken.dropped) n → IsPast p.model p.prune past n → ⊥
  pub covered : (n : Node) → IsCovered p.model p.prune nodes n → IsCovered p.model p.prune (taken.kept ++ taken.dropped) n ⊎ IsPast p.model p.prune past n
  pub apart : Apart p.model p.prune (taken.kept ++ taken.dropped)
  pub few : length taken.kept ≤ share
  pub full : (n : Node) → Has taken.dropped n → length taken.kept ≡ share
  pub floor : IsLeastFloor p.model.minimize p.model.join taken.dropped taken.least_floor
