use Rattle.std.proofs.Common.{arith}
use Rattle.state_layout.specs.Packing.{state_in}
use Rattle.state_layout.specs.Signatures.{signature_in}
use Rattle.state_layout.specs.Keys.{key_of}
use Rattle.state_layout.proofs.Stepping.{key_next}
use Rattle.state_layout.proofs.flat.flat_signature_key_of.Goals as goal

pub loop-place-preserved : goal.loop-place-preserved
loop-place-preserved c = key_next c.args.slots.now c.args.words.now c.requires.fits c.loop-place.place _ (omega arith) c.loop-place.key c.flat_key_value-key.result (key_of (signature_in c.args.slots.now (state_in c.args.words.now).values)) c.flat_key_value-key.ensures c.loop-place.invariant
