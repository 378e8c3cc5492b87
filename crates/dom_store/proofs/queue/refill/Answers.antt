use Rattle.std.proofs.Common.{List, Option, heap_items, arith, subst}
use Rattle.state_layout.specs.declared.node.Node.{Node}
use Rattle.dom_store.specs.Waiting.{words_of, AreQueued}
use Rattle.dom_store.proofs.Moving.{none_queued, take_all}
use Rattle.dom_store.proofs.Queued.{queue_unkept}
use Rattle.dom_store.proofs.queue.refill.Goals as goal

pub returns-then-not-kept : goal.returns-then-not-kept
returns-then-not-kept g c = queue_unkept g.K.Covers.minimize g.K.Covers.operator c.args.kept (heap_items c.clear.new.self) c.args.places.now c.clear.ensures.heap_order c.if-not-kept.true

pub loop-place-init : goal.loop-place-init
loop-place-init g c = record {
  order = c.clear.ensures.heap_order;
  room = omega (arith, c.requires, c.clear.ensures.len, c.clear.ensures.capacity);
  queued = none_queued g.K.Covers.minimize g.K.Covers.operator c.args.places.now (heap_items c.clear.new.self);
}

pub loop-place-preserved : goal.loop-place-preserved
loop-place-preserved g c = record {
  order = c.push_there.ensures.order;
  room = c.push_there.ensures.room;
  queued = c.push_there.ensures.queued;
}

pub returns : goal.returns
returns g c = record {
  order = c.loop-place.invariant.order;
  queued = λ kept. subst (λ (ps : List (Option Node)). AreQueued (words_of g.K.Covers.minimize g.K.Covers.operator ps) (heap_items c.loop-place.queue)) (take_all c.args.places.now c.loop-place.place (omega (arith, c.loop-place-test.false))) c.loop-place.invariant.queued;
}
