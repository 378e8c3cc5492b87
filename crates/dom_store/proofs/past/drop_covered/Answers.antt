use Rattle.std.proofs.Common.{◌≡◌, ◌<◌, length, arith, sym, ◌∙◌}
use Rattle.std.proofs.lemmas.Option.{slice_get_within}
use Rattle.dom_store.specs.Chains.{older_at, row_in}
use Rattle.dom_store.specs.Past.{past_node}
use Rattle.dom_store.proofs.Chaining.{older_less, left_next}
use Rattle.dom_store.proofs.Remembering.{past_dropped}
use Rattle.dom_store.proofs.past.drop_covered.Goals as goal

pub is_covered_at-requires-clause-kept : goal.is_covered_at-requires-clause-kept
is_covered_at-requires-clause-kept g c = c.loop-next.invariant.kept.nodes

pub drop_older-requires-clause-within : goal.drop_older-requires-clause-within
drop_older-requires-clause-within g c = omega (arith, c.loop-next.invariant.low, c.loop-next.invariant.kept.level, slice_get_within c.args.kept.now c.args.place (past_node c.args.node.now) c.requires.there)

pub loop-next-preserved-then-is_covered_at : goal.loop-next-preserved-then-is_covered_at
loop-next-preserved-then-is_covered_at g c =
    let less : c.in-Some.next < c.loop-next.last = older_less c.loop-next.chains.links.items c.loop-next.last c.in-Some.next (sym c.older.ensures.value ∙ c.in-Some.is) in
    let apart : c.args.place ≡ c.in-Some.next → ⊥ = λ same. omega (arith, same, less, c.loop-next.invariant.low) in
    record {
      kept =
          past_dropped g.K.Covers.prune g.K.Covers.minimize g.K.Covers.operator g.met.K.Covers.transitive c.args.layout.now (row_in c.loop-next.chains.heads.items c.loop-next.chains.links.items) (row_in c.drop_older.new.self.heads.items c.drop_older.new.self.links.items)
          (length c.loop-next.chains.links.items) (length c.drop_older.new.self.links.items) c.args.kept.now c.args.place c.in-Some.next c.args.key c.args.node.now c.loop-next.invariant.kept c.requires.there c.loop-next.invariant.row c.requires.key apart
          (c.is_covered_at.ensures c.if-is_covered_at.true) c.drop_older.ensures.rows c.drop_older.ensures.len;
      row = c.drop_older.ensures.rows c.args.key c.args.place c.loop-next.invariant.row apart;
      low = c.loop-next.invariant.low;
    }

pub loop-next-preserved : goal.loop-next-preserved
loop-next-preserved g c = record {
  kept = c.loop-next.invariant.kept;
  row = c.loop-next.invariant.row;
  low = omega (arith, older_less c.loop-next.chains.links.items c.loop-next.last c.in-Some.next (sym c.older.ensures.value ∙ c.in-Some.is), c.loop-next.invariant.low);
}

pub loop-next-smaller-then-is_covered_at : goal.loop-next-smaller-then-is_covered_at
loop-next-smaller-then-is_covered_at g c = rw c.drop_older.ensures.next (left_next c.loop-next.chains.links.items (older_at c.loop-next.chains.links.items c.loop-next.last) c.in-Some.next (sym c.older.ensures.value ∙ c.in-Some.is))

pub loop-next-smaller : goal.loop-next-smaller
loop-next-smaller g c = left_next c.loop-next.chains.links.items (older_at c.loop-next.chains.links.items c.loop-next.last) c.in-Some.next (sym c.older.ensures.value ∙ c.in-Some.is)

pub returns : goal.returns
returns g c = c.loop-next.invariant.kept
