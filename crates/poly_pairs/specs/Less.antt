-- Sums that are no greater than others.
use Rattle.std.specs.Prelude.{ℕ, List, ℤ, ◌≤ℤ◌}
use Rattle.poly_terms.specs.declared.table.Atom.{Atom}
use Rattle.poly_terms.specs.declared.terms.Term.{Term}
use Rattle.poly_terms.specs.Worth.{worth}
use Rattle.poly_terms.specs.Fits.{Fits}

-- a sum is no greater than another one, wherever the atoms have values that they may have
abbrev pub IsNoGreater : List Atom → List Term → List Term → Type 0
IsNoGreater table less terms = (v : ℕ → ℤ) → Fits table v → worth v less ≤ℤ worth v terms
