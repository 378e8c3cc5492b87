use Rattle.std.proofs.Common.{inl, refl, arith, ◌∙◌}
use Rattle.dom_store.proofs.Under.{removed_under}
use Rattle.dom_store.proofs.stairs.Stairs.remove_under.Goals as goal

pub loop-word-init : goal.loop-word-init
loop-word-init c = record {
  row = refl;
  covers = c.requires;
  others = λ w m u. inl u;
}

pub loop-word-preserved : goal.loop-word-preserved
loop-word-preserved c = record {
  row = c.remove.ensures.row ∙ c.loop-word.invariant.row;
  covers = λ w s at low. c.loop-word.invariant.covers w s (c.remove.ensures.none w s at) low;
  others = removed_under c.args.self.now.steps c.loop-word.self.steps c.remove.new.self.steps c.args.glance c.in-Some.word _ c.loop-word.invariant.others c.in-Some.ensures.some c.in-Some.ensures.over c.remove.ensures.others;
}

pub loop-word-smaller : goal.loop-word-smaller
loop-word-smaller c = omega (arith, c.remove.ensures.less _ c.in-Some.ensures.some)

pub returns-clause-row : goal.returns-clause-row
returns-clause-row c = c.loop-word.invariant.row

pub returns-clause-covers : goal.returns-clause-covers
returns-clause-covers c = c.loop-word.invariant.covers

pub returns-clause-covered : goal.returns-clause-covered
returns-clause-covered c = c.in_default.ensures.none

pub returns-clause-others : goal.returns-clause-others
returns-clause-others c = c.loop-word.invariant.others
