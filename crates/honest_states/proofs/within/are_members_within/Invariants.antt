use Rattle.std.proofs.Common.{◌≡◌, ℕ, ℤ, ◌<◌, Bool, true, Option, Some, slice_get}
use Rattle.dp_model.specs.Evaluation.{has, set_held}
use Rattle.dp_model.specs.declared.parts.PlainValue.{PlainValue}
use Rattle.poly_terms.specs.Fits.{Fits}
use Rattle.poly_eval.specs.declared.symbols.Symbol.TheVariants as shown
use Rattle.poly_eval.specs.Shows.{ShowsValue}
use Rattle.honest_states.specs.Modes.{is_so}
use Rattle.honest_states.proofs.within.are_members_within.Given as goal

abbrev pub invariant-loop-j : goal.invariant-loop-j
invariant-loop-j l =
    (k : ℕ) (x : Option Bool) → k < l.j → slice_get l.members k ≡ Some x → (v : ℕ → ℤ) (held : Option PlainValue) → Fits l.table v → ShowsValue v (shown.Members l.bits) held → is_so x (has (set_held held) k) ≡ true
