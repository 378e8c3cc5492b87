use Rattle.std.proofs.Common.{◌≡◌, ◌++◌, length}
use Rattle.std.specs.Vec.Iter.{into_iter_items, into_iter_len}
use Rattle.crossbeam_queue.specs.SegTies.{IsSegPassOf}
use Rattle.shard_mail.specs.Ends.{lists_of}
use Rattle.shard_mail.proofs.steps.end_posters.Given as goal

-- the posters so far have ended
abbrev pub invariant-loop-poster : goal.invariant-loop-poster
invariant-loop-poster g l =
    IsSegPassOf l.queue l.pass
    × (l.pass.me.view.client ≡ record (l.fn.pass.me.view.client) { ended = l.fn.pass.me.view.client.ended ++ lists_of l.yielded })
    × (l.yielded ++ into_iter_items l.poster-iterator ≡ l.fn.posters.items)
    × (into_iter_len l.poster-iterator ≡ length (into_iter_items l.poster-iterator))
    × (goal.iterator-loop-poster g).can_next l.poster-iterator
    × (goal.iterator-loop-poster g).is_finite l.poster-iterator
