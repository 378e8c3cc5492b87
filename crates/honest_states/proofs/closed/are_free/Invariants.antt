use Rattle.std.proofs.Common.{◌≡◌, ℕ, ◌<◌, true, Some, slice_get}
use Rattle.poly_terms.specs.declared.table.Atom.{Atom}
use Rattle.honest_states.specs.Symbols.{is_free_kind}
use Rattle.honest_states.proofs.closed.are_free.Given as goal

abbrev pub invariant-loop-k : goal.invariant-loop-k
invariant-loop-k l = (j : ℕ) (atom : Atom) → j < l.k → j < l.n → slice_get l.table j ≡ Some atom → is_free_kind atom ≡ true
