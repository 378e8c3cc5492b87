-- When a symbolic state shows a state, and what the polynomials of an expression promise.
use Rattle.std.specs.Prelude.{◌≡◌, ℕ, List, length, slice_get, Option, Some, ℤ, IsTrue}
use Rattle.dp_model.specs.Typing.{is_state, is_set_below}
use Rattle.dp_model.specs.Evaluation.{has, number_held, set_held, count_of}
use Rattle.dp_model.specs.declared.trees.Num.{Num}
use Rattle.dp_model.specs.declared.trees.SetEx.{SetEx}
use Rattle.dp_model.specs.declared.trees.Cond.{Cond}
use Rattle.dp_model.specs.declared.parts.PlainState.{PlainState}
use Rattle.dp_model.specs.declared.parts.PlainValue.{PlainValue}
use Rattle.dp_model.specs.declared.whole.Model.{Model}
use Rattle.poly_terms.specs.declared.table.Atom.{Atom}
use Rattle.poly_terms.specs.declared.terms.Term.{Term}
use Rattle.poly_terms.specs.Worth.{worth, as_bit}
use Rattle.poly_terms.specs.Fits.{Fits}
use Rattle.wide_values.specs.Wide.{wide_num, wide_cond, wide_set, wide_typed}
use Rattle.poly_eval.specs.declared.symbols.Symbol.{Symbol}
use Rattle.poly_eval.specs.declared.symbols.Symbol.TheVariants.{Number, Members}

-- A variable's number is what its polynomial is worth, and its set has the members whose bits are 1.
abbrev pub ShowsValue : (ℕ → ℤ) → Symbol → Option PlainValue → Type 0
ShowsValue v (Number p) held = number_held held ≡ worth v p
ShowsValue v (Members bits) held = (j : ℕ) (p : List Term) → slice_get bits j ≡ Some p → as_bit (has (set_held held) j) ≡ worth v p

abbrev pub Shows : (ℕ → ℤ) → List Symbol → PlainState → Type 0
Shows v symbols s = (k : ℕ) (x : Symbol) → slice_get symbols k ≡ Some x → ShowsValue v x (slice_get s.values k)

-- each atom of a table is in another one too
abbrev pub Extends : List Atom → List Atom → Type 0
Extends old new = (k : ℕ) (atom : Atom) → slice_get old k ≡ Some atom → slice_get new k ≡ Some atom

-- In each state of the model that the symbols show, the polynomial is worth the wide value of the expression.
abbrev pub IsValue : Model → List Atom → List Symbol → List ℕ → Num → List Term → Type 0
IsValue m table symbols given e p = (s : PlainState) (v : ℕ → ℤ) → IsTrue (is_state m.objects m.variables s) → Fits table v → Shows v symbols s → wide_num m s e given ≡ worth v p

-- the same of a condition, as a bit
abbrev pub IsTruth : Model → List Atom → List Symbol → List ℕ → Cond → List Term → Type 0
IsTruth m table symbols given e p = (s : PlainState) (v : ℕ → ℤ) → IsTrue (is_state m.objects m.variables s) → Fits table v → Shows v symbols s → as_bit (wide_cond m s e given) ≡ worth v p

-- The bits of a set: it is an ascending set of members below their number, and each bit says whether it has a member.
pub record AreBits (v : ℕ → ℤ) (bits : List (List Term)) (set : List ℕ) : Type 0 where
  pub below : IsTrue (is_set_below (length bits) set)
  pub bit : (j : ℕ) (p : List Term) → slice_get bits j ≡ Some p → as_bit (has set j) ≡ worth v p

-- A set expression has a bit for each member of its object type.
pub record IsSetWith (m : Model) (s : PlainState) (v : ℕ → ℤ) (given : List ℕ) (e : SetEx) (row : List (List Term)) : Type 0 where
  pub many : length row ≡ count_of m (wide_typed m s e).0
  pub bits : AreBits v row (wide_set m s e given)

abbrev pub IsSet : Model → List Atom → List Symbol → List ℕ → SetEx → List (List Term) → Type 0
IsSet m table symbols given e bits = (s : PlainState) (v : ℕ → ℤ) → IsTrue (is_state m.objects m.variables s) → Fits table v → Shows v symbols s → IsSetWith m s v given e bits
