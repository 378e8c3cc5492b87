-- The open nodes, and a node that comes to them.
use Rattle.std.specs.Prelude.{◌≡◌, ◌⊎◌, List}
use Rattle.dp_claims.specs.Enough.{Has}
use Rattle.dom_store.specs.Contents.{IsCovered, Apart}
use Rattle.dom_store.specs.Past.{IsPast}
use Rattle.dom_store.specs.declared.past_node.PastNode.{PastNode}
use Rattle.pass_ledger.specs.Passes.{Pass}
use Rattle.state_layout.specs.declared.node.Node.{Node}

-- A node came to the open ones `old`: it is one of those that are open then, or one of them or of the past covers it. What else is
-- open then was open before, and of those that were each is covered. None that is open covers another, and the node is among
-- them only where neither the past nor one that was open covers it.
pub record Opens (p : Pass) (past : List PastNode) (old : List Node) (node : Node) (new : List Node) : Type 0 where
  pub kept : (n : Node) → Has new n → Has old n ⊎ ((node ≡ n) × (IsPast p.model p.prune past node → ⊥) × (IsCovered p.model p.prune old node → ⊥))
  pub apart : Apart p.model p.prune new
  pub left : (n : Node) → Has old n → IsCovered p.model p.prune new n
  pub added : IsCovered p.model p.prune new node ⊎ IsPast p.model p.prune past node
