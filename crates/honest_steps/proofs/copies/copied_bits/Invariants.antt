use Rattle.std.proofs.Common.{◌≡◌, take}
use Rattle.honest_steps.proofs.copies.copied_bits.Given as goal

abbrev pub invariant-loop-bit : goal.invariant-loop-bit
invariant-loop-bit l = l.same.items ≡ take l.bit-index l.bits
