-- What stands for all states of a mode at once.
use Rattle.std.specs.Prelude.{◌≡◌, ℕ, ◌<◌, ◌≤◌, Bool, true, false, List, length, slice_get, Some, ℤ}
use Rattle.dp_model.specs.declared.parts.PlainState.{PlainState}
use Rattle.poly_terms.specs.declared.table.Atom.{Atom}
use Rattle.poly_terms.specs.declared.table.Atom.TheVariants.{Bit, Number, Most, Least, Over, AtMostZero}
use Rattle.poly_terms.specs.Fits.{Fits}
use Rattle.poly_eval.specs.Shows.{Extends, Shows}
use Rattle.poly_eval.specs.declared.symbols.Symbol.{Symbol}

-- whether an atom may have any value of its kind, whatever the others have
abbrev pub is_free_kind : Atom → Bool
is_free_kind Bit = true
is_free_kind (Number low high) = true
is_free_kind (Most p q) = false
is_free_kind (Least p q) = false
is_free_kind (Over p d) = false
is_free_kind (AtMostZero p) = false

abbrev pub AreFree : List Atom → Type 0
AreFree table = (k : ℕ) (atom : Atom) → slice_get table k ≡ Some atom → is_free_kind atom ≡ true

-- values that agree on the first atoms
abbrev pub AgreeBelow : ℕ → (ℕ → ℤ) → (ℕ → ℤ) → Type 0
AgreeBelow n v w = (k : ℕ) → k < n → w k ≡ v k

-- what is said of values rests on the first atoms alone
abbrev pub RestsOn : ℕ → ((ℕ → ℤ) → Type 0) → Type 0
RestsOn n P = (v w : ℕ → ℤ) → AgreeBelow n v w → P v → P w

-- the atoms can have values by which the symbols show the state
abbrev pub CanShow : List Atom → List Symbol → PlainState → Type 0
CanShow table symbols s = (v : ℕ → ℤ) × Fits table v × Shows v symbols s

-- Values of the first atoms that show a state can be completed to all atoms of a table that begins with those: they change at
-- later atoms alone, and show the state still.
abbrev pub IsClosed : List Atom → ℕ → List Symbol → Type 0
IsClosed table free symbols =
    (front : List Atom) (v : ℕ → ℤ) (s : PlainState) → length front ≡ free → Extends front table → Fits front v → Shows v symbols s
    → (w : ℕ → ℤ) × Fits table w × Shows w symbols s × AgreeBelow free v w

-- A table has grown by atoms whose values can be chosen so that more holds, which rests on the atoms of the new table alone.
pub record Opens (old new : List Atom) (P : (ℕ → ℤ) → Type 0) : Type 0 where
  pub longer : length old ≤ length new
  pub rests : RestsOn (length new) P
  pub chosen : AreFree old → (v : ℕ → ℤ) → Fits old v → (w : ℕ → ℤ) × Fits new w × AgreeBelow (length old) v w × P w
