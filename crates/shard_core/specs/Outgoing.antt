-- The states that are to be handed out.
use Rattle.std.specs.Prelude.{ℕ, List, map}
use Rattle.state_layout.specs.Signatures.{owner_of}
use Rattle.state_layout.specs.declared.layout.Layout.{Layout}
use Rattle.state_layout.specs.declared.node.Node.{Node}
use Rattle.pass_ledger.specs.Records.{unsent}
use Rattle.pass_ledger.specs.declared.records.Unsent.{Unsent}

-- a node goes to the shard that owns its state
abbrev pub letter_of : Layout → (shards : ℕ) → Node → Unsent
letter_of layout shards n = unsent (owner_of layout n.state shards) n

abbrev pub letters_of : Layout → (shards : ℕ) → List Node → List Unsent
letters_of layout shards nodes = map (letter_of layout shards) nodes
