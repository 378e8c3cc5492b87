use Rattle.std.proofs.Common.{◌≡◌, ℕ, ℤ, Bool, true, length}
use Rattle.poly_terms.specs.Worth.{worth, as_bit}
use Rattle.poly_terms.specs.Fits.{Fits}
use Rattle.honest_states.specs.Modes.{is_so}
use Rattle.honest_states.proofs.Lists.{Matched}
use Rattle.honest_states.proofs.joining.members_in.Given as goal

abbrev pub invariant-loop-bit : goal.invariant-loop-bit
invariant-loop-bit l =
    (length l.members.items ≡ l.bit-index) × Matched (λ k y x. (v : ℕ → ℤ) (b : Bool) → Fits l.table v → as_bit b ≡ worth v y → is_so x b ≡ true) l.bits l.members.items
