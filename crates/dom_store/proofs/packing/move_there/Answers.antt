use Rattle.std.proofs.Common.{arith}
use Rattle.dom_store.proofs.Moving.{come_self, still_empty}
use Rattle.dom_store.proofs.packing.move_there.Goals as goal

pub returns-then-not-is_there_at-clause-from : goal.returns-then-not-is_there_at-clause-from
returns-then-not-is_there_at-clause-from c = come_self c.args.places.now.items c.args.glances.now.items c.args.chains.now.links.items

pub returns-then-not-is_there_at-clause-empty : goal.returns-then-not-is_there_at-clause-empty
returns-then-not-is_there_at-clause-empty c = still_empty c.args.places.now.items c.deref.result.now c.args.to c.args.from c.deref.ensures.value c.requires.empty (c.is_there_at.ensures c.if-not-is_there_at.true)

pub returns-clause-empty : goal.returns-clause-empty
returns-clause-empty c = λ p n low high stands. c.move_node.ensures.empty p n (omega (arith, low)) (omega (arith, high)) stands
