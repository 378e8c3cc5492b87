use Rattle.std.proofs.Common.{◌≡◌, ℕ, ◌<◌, Bool, true, Option, Some, length, slice_get}
use Rattle.dp_model.specs.Evaluation.{has, set_held}
use Rattle.dp_model.specs.declared.parts.PlainValue.{PlainValue}
use Rattle.poly_eval.specs.declared.symbols.Symbol.TheVariants as shown
use Rattle.poly_eval.specs.Shows.{ShowsValue}
use Rattle.honest_states.specs.Modes.{is_so}
use Rattle.honest_states.specs.Symbols.{AreFree, Opens}
use Rattle.honest_states.proofs.opening.bits_of.Given as goal

abbrev pub invariant-loop-known : goal.invariant-loop-known
invariant-loop-known l =
    (length l.bits.items ≡ l.known-index)
    × (AreFree l.initial.table.items → AreFree l.table.items)
    × ((held : Option PlainValue) → ((k : ℕ) (x : Option Bool) → k < l.known-index → slice_get l.members k ≡ Some x → is_so x (has (set_held held) k) ≡ true) → Opens l.initial.table.items l.table.items (λ v. ShowsValue v (shown.Members l.bits.items) held))
