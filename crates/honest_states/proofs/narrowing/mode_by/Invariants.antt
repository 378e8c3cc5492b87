use Rattle.std.proofs.Common.{◌≡◌, ℕ, ℤ, true, length, slice_get}
use Rattle.dp_model.specs.declared.parts.PlainState.{PlainState}
use Rattle.poly_terms.specs.Fits.{Fits}
use Rattle.poly_eval.specs.Shows.{Shows}
use Rattle.honest_states.specs.Modes.{is_known}
use Rattle.honest_states.specs.Facts.{AreFacts}
use Rattle.honest_states.proofs.Lists.{Matched}
use Rattle.honest_states.proofs.narrowing.mode_by.Given as goal

abbrev pub invariant-loop-i : goal.invariant-loop-i
invariant-loop-i l =
    (length l.more.items ≡ l.i)
    × Matched (λ k y x. (v : ℕ → ℤ) (s : PlainState) → Fits l.table v → AreFacts v l.told → Shows v l.symbols s → is_known y (slice_get s.values k) ≡ true → is_known x (slice_get s.values k) ≡ true) l.mode.known l.more.items
