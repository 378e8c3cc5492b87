use Rattle.std.proofs.Common.{◌≡◌, length}
use Rattle.best_first.specs.Mails.{HaveRoom}
use Rattle.best_first.proofs.mails.empty_lists.Given as goal

-- the lists so far
abbrev pub invariant-loop : goal.invariant-loop
invariant-loop l = record {
  long : length l.lists.items ≡ l.counter;
  room : HaveRoom l.shards 0 l.lists.items;
}
