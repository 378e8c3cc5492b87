use Rattle.std.proofs.Common.{◌≡◌, map, drop}
use Rattle.state_layout.specs.Packing.{state_in}
use Rattle.state_layout.specs.Signatures.{signature_in, without_preference, hash_of, hash_onto}
use Rattle.state_layout.proofs.flat.flat_hash_of.Given as goal

abbrev pub invariant-loop-place : goal.invariant-loop-place
invariant-loop-place l = hash_onto l.hash (signature_in (map without_preference (drop l.place l.slots)) (drop l.place (state_in l.words).values)) ≡ hash_of (signature_in (map without_preference l.slots) (state_in l.words).values)
