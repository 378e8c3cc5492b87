use Rattle.std.proofs.Common.{◌≡◌, map, drop}
use Rattle.state_layout.specs.Packing.{state_in}
use Rattle.state_layout.specs.Signatures.{signature_in, without_preference}
use Rattle.state_layout.specs.Keys.{key_of, key_onto}
use Rattle.state_layout.proofs.flat.flat_key_of.Given as goal

abbrev pub invariant-loop-place : goal.invariant-loop-place
invariant-loop-place l = key_onto l.key (signature_in (map without_preference (drop l.place l.slots)) (drop l.place (state_in l.words).values)) ≡ key_of (signature_in (map without_preference l.slots) (state_in l.words).values)
