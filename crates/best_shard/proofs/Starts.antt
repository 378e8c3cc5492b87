-- A new shard stands for the record of a shard that has not begun.
use Rattle.std.proofs.Common.{◌≡◌, [], Option, Some, None, refl}
use Rattle.state_layout.specs.Conditions.{IsNodeOf}
use Rattle.state_layout.specs.declared.node.Node.{Node}
use Rattle.pass_ledger.specs.Passes.{Pass}
use Rattle.pass_ledger.specs.Records.{Starts}
use Rattle.best_ledger.specs.Events.{fresh, opens_with}
use Rattle.best_ledger.proofs.Posts.{own_law}
use Rattle.best_shard.specs.Stands.{Stands, Belongs}
use Rattle.best_shard.specs.declared.shard.BestShard.{BestShard}

module _ {A B : Type 0} where
  pub new_stands : (p : Pass) (start : Option Node) (s : BestShard A B) → Belongs p s.me s.shards s.expander s.layout → Starts p s.me start → ((n : Node) → start ≡ Some n → IsNodeOf p.model n)
      → s.waiting.layout ≡ s.layout → s.waiting.nodes ≡ opens_with start → s.past.layout ≡ s.layout → s.past.nodes ≡ [] → s.letters.items ≡ []
      → s.visited ≡ 0 → s.log.shard ≡ s.me → s.log.entries ≡ [] → s.held ≡ None → s.fault ≡ None → s.clock ≡ 0 → Stands p s (fresh p.shards start)
  new_stands p start s belongs starts good layout waiting past_layout past_none letters visited shard entries held fault clock =
      record {
        follows = record {
          belongs = belongs;
          ends = (shard, record { own = own_law.begins p s.me start starts; log_is = entries; visited_is = visited; held_is = held; fault_is = fault });
          fine = refl;
          start = good;
          layout_is = layout;
          past = record { layout_is = past_layout; nodes_are = past_none };
          letters = letters;
          clock = clock;
        };
        waiting = waiting;
      }
