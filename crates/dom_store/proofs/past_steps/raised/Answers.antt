use Rattle.std.proofs.Common.{◌≡◌, Some, length, inl, sym, ◌∙◌}
use Rattle.dom_store.specs.Chains.{row_in}
use Rattle.dom_store.proofs.Chaining.{left_less}
use Rattle.dom_store.proofs.Climbing.{of_row}
use Rattle.dom_store.proofs.Under.{left_under, all_under}
use Rattle.dom_store.proofs.past_steps.raised.Goals as goal

pub loop-next-init : goal.loop-next-init
loop-next-init g c = record {
  row = λ k on. (let is : Some c.args.key ≡ Some k = sym c.begin.ensures.row ∙ on in cc);
  left = λ on p n there at_row. inl (c.newest-next.ensures p at_row);
}

pub loop-next-preserved : goal.loop-next-preserved
loop-next-preserved g c = record {
  row = λ k on. c.loop-next.invariant.row k (c.put_kept.ensures.row k on);
  left =
      left_under g.K.Covers.prune g.K.Covers.minimize g.K.Covers.operator c.args.layout.now c.args.key (row_in c.args.chains.now.heads.items c.args.chains.now.links.items c.args.key) c.loop-next.stairs.row c.put_kept.new.stairs.row c.loop-next.stairs.steps c.put_kept.new.stairs.steps c.args.kept.now c.args.chains.now.links.items c.loop-next.next c.older-next.result c.in-Some.place
      c.loop-next.invariant.left c.in-Some.is c.older-next.ensures.chain
      (λ p at_row. of_row c.args.chains.now.heads.items c.args.chains.now.links.items c.args.key p at_row)
      c.put_kept.ensures.row c.put_kept.ensures.under c.put_kept.ensures.others;
}

pub loop-next-smaller : goal.loop-next-smaller
loop-next-smaller g c = left_less c.older-next.result c.loop-next.next c.in-Some.place c.in-Some.is c.older-next.ensures.below

pub returns-clause-steps : goal.returns-clause-steps
returns-clause-steps g c =
    all_under g.K.Covers.prune g.K.Covers.minimize g.K.Covers.operator c.args.layout.now g.met.K.Covers.one_key (row_in c.args.chains.now.heads.items c.args.chains.now.links.items) (length c.args.chains.now.links.items) c.args.key c.loop-next.stairs.row c.loop-next.stairs.steps c.args.kept.now c.args.chains.now.links.items c.loop-next.next c.requires.kept
    c.loop-next.invariant.row c.loop-next.invariant.left c.in_default.is

pub returns-clause-row : goal.returns-clause-row
returns-clause-row g c = c.loop-next.invariant.row
