use Rattle.std.proofs.Common.{◌≡◌, ℕ, ◌<◌, Option, Some, slice_get}
use Rattle.dp_model.specs.declared.parts.PlainValue.{PlainValue}
use Rattle.poly_eval.specs.declared.symbols.Symbol.{Symbol}
use Rattle.poly_eval.specs.Shows.{ShowsValue}
use Rattle.honest_states.specs.Symbols.{RestsOn}
use Rattle.honest_states.proofs.closed.are_symbols_below.Given as goal

abbrev pub invariant-loop-symbol : goal.invariant-loop-symbol
invariant-loop-symbol l = (k : ℕ) (x : Symbol) → k < l.symbol-index → slice_get l.symbols k ≡ Some x → (held : Option PlainValue) → RestsOn l.n (λ v. ShowsValue v x held)
