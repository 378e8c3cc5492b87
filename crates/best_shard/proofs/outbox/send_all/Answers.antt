use Rattle.std.proofs.Common.{ℕ, zero, suc, List, [], ◌∷◌, ◌++◌, refl, sym, ap, subst, ◌∙◌}
use Rattle.dp_claims.specs.Enough.{Has}
use Rattle.state_layout.specs.Conditions.{IsNodeFor}
use Rattle.state_layout.specs.Signatures.{owner_of}
use Rattle.state_layout.specs.declared.node.Node.{Node}
use Rattle.best_ledger.specs.Histories.{letter}
use Rattle.best_ledger.specs.Records.{to_post}
use Rattle.best_shard.specs.Outgoing.{addressed}
use Rattle.best_shard.proofs.Sends.{sends_next}
use Rattle.best_shard.proofs.outbox.send_all.Goals as goal

pub receiver-to-requires-clause-node : goal.receiver-to-requires-clause-node
receiver-to-requires-clause-node c =
    subst (λ (n : Node). IsNodeFor c.args.layout.now n) (sym c.get.ensures) (c.loop-node.invariant.nodes c.in-Some.node (subst (λ (ns : List Node). Has ns c.in-Some.node) (sym c.in-Some.ensures.items) (zero, refl)))

pub loop-node-preserved : goal.loop-node-preserved
loop-node-preserved c =
    let n = c.in-Some.node in
    let owner = c.receiver-to.ensures ∙ ap (λ (m : Node). owner_of c.args.layout.now m.state c.args.shards) c.get.ensures in
    record {
      nodes = λ m h. c.loop-node.invariant.nodes m (subst (λ (ns : List Node). Has ns m) (sym c.in-Some.ensures.items) (suc h.0, h.1));
      sends = sends_next (addressed c.args.layout.now c.args.shards c.args.from c.args.stamp) c.loop-node.letters.items c.push_back.new.self.items n c.pop_front.new.self.items c.loop-node.left.items c.in-Some.ensures.items
          (c.in_ok-push_back.ensures.items ∙ ap (λ (k : ℕ). c.loop-node.letters.items ++ to_post k (letter c.args.from c.args.stamp n) ∷ []) owner)
          ∙ c.loop-node.invariant.sends;
    }
