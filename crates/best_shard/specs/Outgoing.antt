-- The letters that a visit makes.
use Rattle.std.specs.Prelude.{ℕ}
use Rattle.state_layout.specs.Signatures.{owner_of}
use Rattle.state_layout.specs.declared.layout.Layout.{Layout}
use Rattle.state_layout.specs.declared.node.Node.{Node}
use Rattle.best_ledger.specs.Histories.{letter}
use Rattle.best_ledger.specs.Records.{to_post}
use Rattle.best_ledger.specs.declared.records.ToPost.{ToPost}

-- a node goes to the shard that owns its state, in a letter of this sender and with this stamp
abbrev pub addressed : Layout → (shards from stamp : ℕ) → Node → ToPost
addressed layout shards from stamp n = to_post (owner_of layout n.state shards) (letter from stamp n)
