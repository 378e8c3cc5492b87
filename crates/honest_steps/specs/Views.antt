-- What is learned of the states of a mode from conditions that are tested there, or in a state where a step leads.
use Rattle.std.specs.Prelude.{◌≡◌, ℕ, Bool, true, false, List, [], length, slice_get, Option, Some, IsTrue, ℤ}
use Rattle.dp_model.specs.Typing.{is_state}
use Rattle.dp_model.specs.declared.parts.BaseCase.{BaseCase}
use Rattle.dp_model.specs.declared.parts.PlainState.{PlainState}
use Rattle.dp_model.specs.declared.whole.Model.{Model}
use Rattle.dp_steps.specs.States.{Inner, Step}
use Rattle.poly_terms.specs.declared.table.Atom.{Atom}
use Rattle.poly_terms.specs.Fits.{Fits}
use Rattle.poly_eval.specs.Shows.{Extends, Shows}
use Rattle.poly_eval.specs.declared.symbols.Symbol.{Symbol}
use Rattle.wide_steps.specs.Steps.{all_hold}
use Rattle.honest_states.specs.Modes.{in_mode, in_narrowed}
use Rattle.honest_states.specs.Symbols.{CanShow}
use Rattle.honest_states.specs.declared.mode.Mode.{Mode}
use Rattle.honest_states.specs.declared.mode.Narrowed.{Narrowed}
use Rattle.honest_steps.specs.declared.views.Seen.{Seen}
use Rattle.honest_steps.specs.declared.views.View.{View}
use Rattle.honest_steps.specs.declared.views.View.TheVariants.{Here, After}

-- From a state of the model one looks at a state: the same one, or one where a step by this ground transition leads.
abbrev pub Sees : Model → View → PlainState → PlainState → Type 0
Sees m Here s x = IsTrue (is_state m.objects m.variables s) × (s ≡ x)
Sees m (After g) s x = IsTrue (is_state m.objects m.variables s) × (weight : Option ℤ) × Step m s g weight x

-- What is left of a mode has each of its states from which one looks at a state where the test comes out so.
abbrev pub Leaves : Model → View → Mode → (PlainState → Bool) → Bool → Narrowed → Type 0
Leaves m view mode test held left =
    (s x : PlainState) → Sees m view s x → in_mode mode s ≡ true → test x ≡ held → in_narrowed left s ≡ true

-- The table begins with atoms by which the symbols can show each state of the mode.
pub record Begins (mode : Mode) (table : List Atom) (free : ℕ) (symbols : List Symbol) : Type 0 where
  pub front : List Atom
  pub long : length front ≡ free
  pub extends : Extends front table
  pub shows : (s : PlainState) → in_mode mode s ≡ true → CanShow front symbols s

-- Where the mode's symbols show one of its states, others show the state that is looked at, which is one of the model.
pub record IsSeen (m : Model) (view : View) (mode : Mode) (seen : Seen) : Type 0 where
  pub begins : Begins mode seen.table.items seen.free seen.own.items
  pub shows : (s x : PlainState) (v : ℕ → ℤ) → Sees m view s x → Fits seen.table.items v → Shows v seen.own.items s → Shows v seen.symbols.items x
  pub state : (s x : PlainState) → Sees m view s x → IsTrue (is_state m.objects m.variables x)

-- What is left of a mode has each of its states from which one looks at an inner state.
abbrev pub LeavesInner : Model → View → Mode → Narrowed → Type 0
LeavesInner m view mode left = (s x : PlainState) → Sees m view s x → in_mode mode s ≡ true → Inner m x → in_narrowed left s ≡ true

-- What is left of a mode has each of its states from which one looks at a state where none of these base cases holds.
abbrev pub LeavesOpen : Model → View → Mode → List BaseCase → Narrowed → Type 0
LeavesOpen m view mode cases left =
    (s x : PlainState) → Sees m view s x → in_mode mode s ≡ true → ((i : ℕ) (b : BaseCase) → slice_get cases i ≡ Some b → all_hold m x [] b.conditions ≡ false) → in_narrowed left s ≡ true
