use Rattle.std.proofs.Common.{rules, arith}
use Rattle.state_layout.specs.Tests.{are_at_least}
use Rattle.state_layout.specs.Packing.{state_in}
use Rattle.state_layout.proofs.Stepping.{least_goes, least_fails, least_done}
use Rattle.state_layout.specs.Forms.{no_slot}
use Rattle.state_layout.proofs.flat.are_at_least_flat.Goals as goal

pub returns-then-not-is_at_least_flat : goal.returns-then-not-is_at_least_flat
returns-then-not-is_at_least_flat c = least_fails c.args.slots.now c.args.a.now c.args.b.now c.requires.left c.requires.right c.loop-place.place _ (omega arith) c.is_at_least_flat.result (are_at_least c.args.slots.now (state_in c.args.a.now).values (state_in c.args.b.now).values) c.is_at_least_flat.ensures (search rules) c.loop-place.invariant

pub loop-place-preserved : goal.loop-place-preserved
loop-place-preserved c = least_goes c.args.slots.now c.args.a.now c.args.b.now c.requires.left c.requires.right c.loop-place.place _ (omega arith) c.is_at_least_flat.result (are_at_least c.args.slots.now (state_in c.args.a.now).values (state_in c.args.b.now).values) c.is_at_least_flat.ensures (search rules) c.loop-place.invariant

pub returns : goal.returns
returns c = least_done c.args.slots.now c.args.a.now c.args.b.now c.requires.left c.requires.right c.loop-place.place no_slot (omega arith) (are_at_least c.args.slots.now (state_in c.args.a.now).values (state_in c.args.b.now).values) c.loop-place.invariant
