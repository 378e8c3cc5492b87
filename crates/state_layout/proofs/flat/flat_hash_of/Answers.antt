use Rattle.std.proofs.Common.{arith, map}
use Rattle.state_layout.specs.Packing.{state_in}
use Rattle.state_layout.specs.Signatures.{signature_in, hash_of, without_preference}
use Rattle.state_layout.proofs.Flattening.{flat_hash_next}
use Rattle.state_layout.proofs.flat.flat_hash_of.Goals as goal

pub loop-place-preserved : goal.loop-place-preserved
loop-place-preserved c = flat_hash_next c.args.slots.now c.args.words.now c.requires.fits c.requires.flat c.loop-place.place (omega arith) (λ k. (c.type_inv.words k).fits) c.loop-place.hash c.hash_word-hash.result c.first_word.result (hash_of (signature_in (map without_preference c.args.slots.now) (state_in c.args.words.now).values)) c.hash_word-hash.ensures c.first_word.ensures c.loop-place.invariant
