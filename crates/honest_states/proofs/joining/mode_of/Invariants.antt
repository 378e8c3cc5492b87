use Rattle.std.proofs.Common.{◌≡◌, ℕ, ℤ, true, length, Option}
use Rattle.dp_model.specs.declared.parts.PlainValue.{PlainValue}
use Rattle.poly_terms.specs.Fits.{Fits}
use Rattle.poly_eval.specs.Shows.{ShowsValue}
use Rattle.honest_states.specs.Modes.{is_known}
use Rattle.honest_states.proofs.Lists.{Matched}
use Rattle.honest_states.proofs.joining.mode_of.Given as goal

abbrev pub invariant-loop-symbol : goal.invariant-loop-symbol
invariant-loop-symbol l =
    (length l.known.items ≡ l.symbol-index) × Matched (λ k y x. (v : ℕ → ℤ) (held : Option PlainValue) → Fits l.table v → ShowsValue v y held → is_known x held ≡ true) l.symbols l.known.items
