use Rattle.std.proofs.Common.{arith, map}
use Rattle.state_layout.specs.Packing.{state_in}
use Rattle.state_layout.specs.Signatures.{signature_in, without_preference}
use Rattle.state_layout.specs.Keys.{key_of}
use Rattle.state_layout.proofs.Stepping.{whole_key_next}
use Rattle.state_layout.proofs.keys.whole_key_of.Goals as goal

pub loop-place-preserved : goal.loop-place-preserved
loop-place-preserved c = whole_key_next c.args.slots.now c.args.words.now c.requires c.loop-place.place _ (omega arith) c.loop-place.key c.key_value-key.result (key_of (signature_in (map without_preference c.args.slots.now) (state_in c.args.words.now).values)) c.without_preference.result c.without_preference.ensures c.key_value-key.ensures c.loop-place.invariant
