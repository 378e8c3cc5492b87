use Rattle.std.proofs.Common.{◌≡◌, drop}
use Rattle.state_layout.specs.Packing.{state_in}
use Rattle.state_layout.specs.Signatures.{signature_in}
use Rattle.state_layout.specs.Keys.{key_of, key_onto}
use Rattle.state_layout.proofs.flat.flat_signature_key_of.Given as goal

abbrev pub invariant-loop-place : goal.invariant-loop-place
invariant-loop-place l = key_onto l.key (signature_in (drop l.place l.slots) (drop l.place (state_in l.words).values)) ≡ key_of (signature_in l.slots (state_in l.words).values)
