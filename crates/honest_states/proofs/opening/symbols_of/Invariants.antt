use Rattle.std.proofs.Common.{◌≡◌, ℕ, ◌<◌, true, [], Some, length, slice_get}
use Rattle.dp_model.specs.declared.parts.PlainState.{PlainState}
use Rattle.poly_eval.specs.Shows.{Shows}
use Rattle.honest_states.specs.declared.mode.Known.{Known}
use Rattle.honest_states.specs.Modes.{is_known}
use Rattle.honest_states.specs.Symbols.{AreFree, Opens}
use Rattle.honest_states.proofs.opening.symbols_of.Given as goal

abbrev pub invariant-loop-known : goal.invariant-loop-known
invariant-loop-known l =
    (length l.symbols.items ≡ l.known-index)
    × AreFree l.table.items
    × ((s : PlainState) → ((k : ℕ) (x : Known) → k < l.known-index → slice_get l.mode.known k ≡ Some x → is_known x (slice_get s.values k) ≡ true) → Opens [] l.table.items (λ v. Shows v l.symbols.items s))
