use Rattle.std.proofs.Common.{◌≡◌, ◌++◌, length}
use Rattle.shard_core.proofs.outbox.push_all.Given as goal

-- what is left follows
abbrev pub invariant-loop-node : goal.invariant-loop-node
invariant-loop-node l = l.letters.items ++ l.left.items ≡ l.initial.letters.items ++ l.fn.nodes

abbrev pub decreases-loop-node : goal.decreases-loop-node
decreases-loop-node l = length l.left.items
