use Rattle.std.proofs.Common.{◌∙◌}
use Rattle.shard_core.proofs.Sends.{letters_next}
use Rattle.shard_core.proofs.outbox.push_all.Goals as goal

pub loop-node-preserved : goal.loop-node-preserved
loop-node-preserved c =
    letters_next c.loop-node.letters.items c.push_back.new.self.items c.in-Some.node c.pop_front.new.self.items c.loop-node.left.items c.in-Some.ensures.items c.in_ok-push_back.ensures.items ∙ c.loop-node.invariant
