use Rattle.std.proofs.Common.{arith}
use Rattle.state_layout.proofs.Placing.{filled_more, filled_all, first_row}
use Rattle.state_layout.proofs.packing.fill.Goals as goal

pub loop-place-preserved : goal.loop-place-preserved
loop-place-preserved c = (c.put_value.ensures.room, filled_more c.args.values.now c.loop-place.words c.put_value.new.words c.loop-place.place c.index-values-place.result c.put_value.ensures.state c.index-values-place.is (omega (arith, c.requires.held.long)) (omega (arith, c.loop-place.invariant.0.fits.count)) c.loop-place.invariant.1)

pub returns-clause-row : goal.returns-clause-row
returns-clause-row c = first_row c.args.slots.now c.loop-place.words c.loop-place.invariant.0.fits

pub returns-clause-values : goal.returns-clause-values
returns-clause-values c = filled_all c.args.slots.now c.args.values.now c.loop-place.words c.loop-place.place c.loop-place.invariant.0 c.requires.held.long (omega arith) c.loop-place.invariant.1
