use Rattle.std.proofs.Common.{◌<◌, Some, length, arith, refl, sym, ◌∙◌}
use Rattle.std.proofs.lemmas.Option.{slice_get_within}
use Rattle.dom_store.proofs.Moving.{come_self, come_on}
use Rattle.dom_store.proofs.packing.move_together.Goals as goal

pub loop-place-init : goal.loop-place-init
loop-place-init c = record {
  nodes = refl;
  from = come_self c.args.places.now.items c.args.glances.now.items c.args.chains.now.links.items;
  low = omega arith;
  empty = λ p n low high stands. absurd (omega (arith, high));
  long = refl;
  level = c.requires.level;
  linked = c.requires.linked;
  buckets = refl;
}

pub loop-place-preserved : goal.loop-place-preserved
loop-place-preserved c = record {
  nodes = c.move_there-count.ensures.nodes ∙ c.loop-place.invariant.nodes;
  from =
      come_on c.args.places.now.items c.loop-place.places.items c.move_there-count.new.places.items c.args.glances.now.items c.loop-place.glances.items c.move_there-count.new.glances.items c.args.chains.now.links.items c.loop-place.chains.links.items c.move_there-count.new.chains.links.items
      c.loop-place.invariant.from c.move_there-count.ensures.from;
  low = c.move_there-count.ensures.low;
  empty = c.move_there-count.ensures.empty;
  long = c.move_there-count.ensures.long ∙ c.loop-place.invariant.long;
  level = c.move_there-count.ensures.level ∙ c.loop-place.invariant.level ∙ sym c.move_there-count.ensures.long;
  linked = c.move_there-count.ensures.linked ∙ c.loop-place.invariant.linked ∙ sym c.move_there-count.ensures.long;
  buckets = c.move_there-count.ensures.buckets ∙ c.loop-place.invariant.buckets;
}

pub returns-clause-behind : goal.returns-clause-behind
returns-clause-behind c = λ p n low stands.
    let within : p < length c.loop-place.places.items = slice_get_within c.loop-place.places.items p (Some n) stands in
    c.loop-place.invariant.empty p n low (omega (arith, within, c.loop-place.invariant.long, c.loop-place-test.false)) stands
