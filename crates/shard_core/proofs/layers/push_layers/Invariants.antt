use Rattle.std.proofs.Common.{◌≡◌, ℕ, ◌+◌, ◌-◌, Bool, length}
use Rattle.state_layout.specs.declared.node.Node.{Node}
use Rattle.shard_core.specs.Layers.{joined_at, nodes_at, busy_at, AreOf}
use Rattle.shard_core.proofs.layers.push_layers.Given as goal

abbrev pub invariant-loop-alloc : goal.invariant-loop-alloc
invariant-loop-alloc g l =
    AreOf l.initial.layout l.layers.items
    × ((d : ℕ) → nodes_at l.layers.items d ≡ nodes_at l.initial.layers.items d)
    × ((test : Node → Node → Bool) (d : ℕ) → joined_at test l.layers.items d ≡ joined_at test l.initial.layers.items d)
    × ((d : ℕ) → busy_at l.layers.items d ≡ busy_at l.initial.layers.items d)

abbrev pub decreases-loop-alloc : goal.decreases-loop-alloc
decreases-loop-alloc g l = (l.place + 1) - length l.layers.items
