use Rattle.std.proofs.Common.{◌≡◌}
use Rattle.crossbeam_queue.specs.SegTies.{IsSegPassOf}
use Rattle.shard_mail.specs.Ends.{mailbox_facts, AreFirstPosters}
use Rattle.shard_mail.proofs.steps.make_posters.Given as goal

abbrev pub invariant-loop : goal.invariant-loop
invariant-loop g l =
    IsSegPassOf l.queue l.pass
    × (l.pass.me.view.client ≡ record (l.fn.pass.me.view.client) { made = l.counter })
    × AreFirstPosters (mailbox_facts l.queue.web l.fn.pass.me.view.client) l.fn.pass.me.view.client.terms l.counter l.posters.items
