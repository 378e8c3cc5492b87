-- What the parts of an expression promise: arguments of tables and of sums, and the conditions of a `forall`.
use Rattle.std.specs.Prelude.{◌≡◌, ℕ, Bool, not, ◌&&◌, ◌⊎◌, List, [], ◌∷◌, ◌++◌, map, slice_get, Some, ℤ, pos, if◌then◌else◌, IsTrue}
use Rattle.std.proofs.Common.{inl, inr}
use Rattle.dp_model.specs.Typing.{is_state}
use Rattle.dp_model.specs.declared.trees.Arg.{Arg}
use Rattle.dp_model.specs.declared.trees.Num.{Num}
use Rattle.dp_model.specs.declared.trees.Cond.{Cond}
use Rattle.dp_model.specs.declared.parts.PlainState.{PlainState}
use Rattle.dp_model.specs.declared.whole.Model.{Model}
use Rattle.poly_terms.specs.declared.table.Atom.{Atom}
use Rattle.poly_terms.specs.declared.terms.Term.{Term}
use Rattle.poly_terms.specs.Worth.{worth, as_bit}
use Rattle.poly_terms.specs.Fits.{Fits}
use Rattle.wide_values.specs.Wide.{WideNum, WideArg, wide_arg, wide_cond, wide_member, wide_num}
use Rattle.poly_eval.specs.declared.symbols.Symbol.{Symbol}
use Rattle.poly_eval.specs.Shows.{AreBits, Shows}
use Rattle.poly_eval.specs.Bits.{Tells}

-- the wide values of number expressions, and of the arguments of a `sum`

abbrev pub wide_nums : Model → PlainState → List Num → List ℕ → List ℤ
wide_nums m s ns given = map (λ (n : WideNum). n given) (map (wide_num m s) ns)

abbrev pub wide_args : Model → PlainState → List Arg → List ℕ → List (ℤ ⊎ List ℕ)
wide_args m s es given = map (λ (a : WideArg). a given) (map (wide_arg m s) es)

-- the choices for an argument: one member for a number, and each member of a set
abbrev pub choice_of : ℤ ⊎ List ℕ → List ℕ
choice_of (inl z) = wide_member z ∷ []
choice_of (inr set) = set

-- In each state that the symbols show, the expressions are worth these numbers.
abbrev pub AreNumbers : Model → List Atom → List Symbol → List ℕ → List Num → List ℤ → Type 0
AreNumbers m table symbols given ns values = (s : PlainState) (v : ℕ → ℤ) → IsTrue (is_state m.objects m.variables s) → Fits table v → Shows v symbols s → wide_nums m s ns given ≡ values

-- the value of an expression, or 0 where it is skipped

abbrev pub IsValueUnless : Bool → Model → List Atom → List Symbol → List ℕ → Num → List Term → Type 0
IsValueUnless skipped m table symbols given e p =
    (s : PlainState) (v : ℕ → ℤ) → IsTrue (is_state m.objects m.variables s) → Fits table v → Shows v symbols s → (if skipped then pos 0 else wide_num m s e given) ≡ worth v p

abbrev pub IsTruthUnless : Bool → Model → List Atom → List Symbol → List ℕ → Cond → List Term → Type 0
IsTruthUnless skipped m table symbols given e p =
    (s : PlainState) (v : ℕ → ℤ) → IsTrue (is_state m.objects m.variables s) → Fits table v → Shows v symbols s → (if skipped then pos 0 else as_bit (wide_cond m s e given)) ≡ worth v p

-- where another condition holds, this one does not
abbrev pub IsFailure : Model → List Atom → List Symbol → List ℕ → Cond → List Term → List Term → Type 0
IsFailure m table symbols given c guard p =
    (s : PlainState) (v : ℕ → ℤ) (g : Bool) → IsTrue (is_state m.objects m.variables s) → Fits table v → Shows v symbols s → as_bit g ≡ worth v guard → as_bit (g && not (wide_cond m s c given)) ≡ worth v p

-- the same for each member that is one more parameter
abbrev pub AreFailures : Model → List Atom → List Symbol → List ℕ → Cond → List (List Term) → List (List Term) → Type 0
AreFailures m table symbols given c guards row =
    (s : PlainState) (v : ℕ → ℤ) (f : ℕ → Bool) → IsTrue (is_state m.objects m.variables s) → Fits table v → Shows v symbols s → Tells v guards f → Tells v row (λ j. f j && not (wide_cond m s c (given ++ j ∷ [])))

-- the bits of the choices for an argument
abbrev pub IsChoice : Model → List Atom → List Symbol → List ℕ → Arg → List (List Term) → Type 0
IsChoice m table symbols given e row = (s : PlainState) (v : ℕ → ℤ) → IsTrue (is_state m.objects m.variables s) → Fits table v → Shows v symbols s → AreBits v row (choice_of (wide_arg m s e given))

-- the same for each argument
abbrev pub AreRows : Model → List Atom → List Symbol → List ℕ → List Arg → List (List (List Term)) → Type 0
AreRows m table symbols given es rows = (i : ℕ) (e : Arg) (row : List (List Term)) → slice_get es i ≡ Some e → slice_get rows i ≡ Some row → IsChoice m table symbols given e row
