use Rattle.std.proofs.Common.{◌≡◌, ℕ, ℤ, Bool, true, List, Some, length, slice_get}
use Rattle.poly_terms.specs.declared.terms.Term.{Term}
use Rattle.poly_terms.specs.Worth.{worth, as_bit}
use Rattle.honest_states.specs.Modes.{is_so}
use Rattle.honest_states.specs.Facts.{AreFacts}
use Rattle.honest_states.proofs.Lists.{Matched}
use Rattle.honest_states.proofs.narrowing.members_by.Given as goal

abbrev pub invariant-loop-j : goal.invariant-loop-j
invariant-loop-j l =
    (length l.more.items ≡ l.j)
    × Matched (λ k y x. (v : ℕ → ℤ) (b : Bool) → AreFacts v l.told → ((p : List Term) → slice_get l.bits k ≡ Some p → as_bit b ≡ worth v p) → is_so y b ≡ true → is_so x b ≡ true) l.members l.more.items
