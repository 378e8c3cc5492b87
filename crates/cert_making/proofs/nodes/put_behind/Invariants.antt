use Rattle.std.proofs.Common.{◌≡◌, ◌++◌, take}
use Rattle.cert_rows.specs.Making.{nodes_for}
use Rattle.cert_making.proofs.nodes.put_behind.Given as goal

-- what is written of the nodes so far stands behind
abbrev pub invariant-loop-node : goal.invariant-loop-node
invariant-loop-node l = l.written.items ≡ l.initial.written.items ++ nodes_for l.first (take l.node-index l.nodes)
