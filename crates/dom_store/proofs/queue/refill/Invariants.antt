use Rattle.std.proofs.Common.{◌+◌, ◌≤◌, length, drop, take, heap_items, heap_len}
use Rattle.std.specs.BinaryHeap.{IsHeap, heap_capacity}
use Rattle.dom_store.specs.Places.{nodes_of}
use Rattle.dom_store.specs.Waiting.{backwards, words_of, AreQueued}
use Rattle.dom_store.proofs.queue.refill.Given as goal

-- those at the places so far wait, and there is room for the others
abbrev pub invariant-loop-place : goal.invariant-loop-place
invariant-loop-place g l = record {
  order : IsHeap backwards (heap_items l.queue);
  room : heap_len l.queue + length (nodes_of (drop l.place l.places)) ≤ heap_capacity l.queue;
  queued : AreQueued (words_of g.K.Covers.minimize g.K.Covers.operator (take l.place l.places)) (heap_items l.queue);
}
