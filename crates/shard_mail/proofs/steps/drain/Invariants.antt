use Rattle.std.proofs.Common.{◌≡◌, ℕ, ◌<◌, ◌++◌, slice_get, Some}
use Rattle.crossbeam_queue.specs.SegTies.{IsSegPassOf}
use Rattle.shard_mail.proofs.steps.drain.Given as goal

-- what is left so far was taken
abbrev pub invariant-loop : goal.invariant-loop
invariant-loop g l =
    IsSegPassOf l.queue l.pass
    × (l.pass.me.view.client ≡ record (l.fn.pass.me.view.client) { taken = l.fn.pass.me.view.client.taken ++ l.left.items })
    × ((k : ℕ) (x : _) → slice_get l.left.items k ≡ Some x → g.T.Signed.sender_of x < l.fn.pass.me.view.client.senders)
    × (goal.iterator-loop g).can_next l.iterator'
    × (goal.iterator-loop g).is_finite l.iterator'
