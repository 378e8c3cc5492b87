use Rattle.std.proofs.Common.{◌≡◌, ℕ, ℤ, ◌<◌, true, Some, slice_get}
use Rattle.dp_model.specs.declared.parts.PlainState.{PlainState}
use Rattle.poly_terms.specs.Fits.{Fits}
use Rattle.poly_eval.specs.Shows.{Shows}
use Rattle.honest_states.specs.declared.mode.Known.{Known}
use Rattle.honest_states.specs.Modes.{is_known}
use Rattle.honest_states.proofs.within.are_within.Given as goal

abbrev pub invariant-loop-i : goal.invariant-loop-i
invariant-loop-i l =
    (k : ℕ) (x : Known) → k < l.i → slice_get l.mode.known k ≡ Some x → (v : ℕ → ℤ) (s : PlainState) → Fits l.table v → Shows v l.symbols s → is_known x (slice_get s.values k) ≡ true
