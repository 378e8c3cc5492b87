-- What words stand for in each place, and what words and heads are refused as.
use Rattle.std.specs.Prelude.{ℕ, Bool, true, false, ◌==◌, if◌then◌else◌, List, [], length, Option, Some, None, Result, Ok, Err}
use Rattle.dp_model.specs.declared.parts.VarKind.TheVariants as kinds
use Rattle.dp_model.specs.declared.trees.Num.{Num}
use Rattle.dp_model.specs.declared.trees.Num.TheVariants as num
use Rattle.dp_model.specs.declared.trees.SetEx.{SetEx}
use Rattle.dp_model.specs.declared.trees.SetEx.TheVariants as set
use Rattle.dp_model.specs.declared.trees.Cond.{Cond}
use Rattle.dp_model.specs.declared.trees.Cond.TheVariants as cond
use Rattle.dypdl_words.specs.declared.ends.TypeEnd.{TypeEnd}
use Rattle.dypdl_words.specs.declared.ends.TypeEnd.TheVariants.{UnknownName, WrongKind, WrongCount, CostPlace, Continuous, BadNumber}
use Rattle.dypdl_words.specs.declared.scope.CellKind.{CellKind}
use Rattle.dypdl_words.specs.declared.scope.CellKind.TheVariants as cells
use Rattle.dypdl_words.specs.declared.scope.Shape.{Shape}
use Rattle.dypdl_words.specs.declared.scope.Named.{Named}
use Rattle.dypdl_words.specs.declared.scope.Named.TheVariants as named
use Rattle.dypdl_words.specs.Words.{Meaning, Head}
use Rattle.dypdl_words.specs.Words as words

-- ---- kinds of cells

abbrev pub are_whole : CellKind → Bool
are_whole cells.Integer = true
are_whole cells.Element = true
are_whole cells.Truth = false
are_whole (cells.Set object) = false

abbrev pub are_truths : CellKind → Bool
are_truths cells.Truth = true
are_truths cells.Integer = false
are_truths cells.Element = false
are_truths (cells.Set object) = false

abbrev pub are_sets : CellKind → Bool
are_sets (cells.Set object) = true
are_sets cells.Integer = false
are_sets cells.Element = false
are_sets cells.Truth = false

abbrev pub fits : (wanted : Option ℕ) → (object : ℕ) → Bool
fits None object = true
fits (Some wanted) object = wanted == object

-- ---- words

-- a table that is named alone has no arguments
abbrev pub named_alone : {A : Type 0} → (at : ℕ) → Shape → A → Result A TypeEnd
named_alone at shape x = if length shape.args == 0 then Ok x else Err (WrongCount at)

abbrev pub number_named : (at : ℕ) → Named → Result Num TypeEnd
number_named at (named.Variable v kinds.Integer) = Ok (num.Var v)
number_named at (named.Variable v (kinds.Element object)) = Ok (num.Var v)
number_named at (named.Variable v (kinds.Set object)) = Err (WrongKind at)
number_named at (named.Table t shape) = if are_whole shape.cells then named_alone at shape (num.Cell t []) else Err (WrongKind at)

unfoldable pub number_word : (at : ℕ) → Meaning → Result Num TypeEnd
number_word at (words.Whole (Some n)) = Ok (num.Fixed n)
number_word at (words.Whole None) = Err (BadNumber at)
number_word at words.Continuous = Err (Continuous at)
number_word at words.Cost = Err (CostPlace at)
number_word at (words.Truth b) = Err (WrongKind at)
number_word at (words.Param p) = Ok (num.Param p)
number_word at (words.Name name) = number_named at name
number_word at words.Unknown = Err (UnknownName at)

-- what a word is refused as that stands for no set and no condition
abbrev pub word_refused : (at : ℕ) → Meaning → TypeEnd
word_refused at words.Continuous = Continuous at
word_refused at words.Cost = CostPlace at
word_refused at words.Unknown = UnknownName at
word_refused at other = WrongKind at

-- x, where its object type is the wanted one
abbrev pub of_object : {A : Type 0} → (at : ℕ) → (wanted : Option ℕ) → (object : ℕ) → Result A TypeEnd → Result A TypeEnd
of_object at wanted object x = if fits wanted object then x else Err (WrongKind at)

abbrev pub members_cells : (at : ℕ) → (wanted : Option ℕ) → (t : ℕ) → Shape → CellKind → Result (ℕ × SetEx) TypeEnd
members_cells at wanted t shape (cells.Set object) = of_object at wanted object (named_alone at shape (object, set.Cell t []))
members_cells at wanted t shape cells.Integer = Err (WrongKind at)
members_cells at wanted t shape cells.Element = Err (WrongKind at)
members_cells at wanted t shape cells.Truth = Err (WrongKind at)

abbrev pub members_named : (at : ℕ) → (wanted : Option ℕ) → Named → Result (ℕ × SetEx) TypeEnd
members_named at wanted (named.Variable v (kinds.Set object)) = of_object at wanted object (Ok (object, set.Var v))
members_named at wanted (named.Variable v (kinds.Element object)) = Err (WrongKind at)
members_named at wanted (named.Variable v kinds.Integer) = Err (WrongKind at)
members_named at wanted (named.Table t shape) = members_cells at wanted t shape shape.cells

unfoldable pub members_word : (at : ℕ) → (wanted : Option ℕ) → Meaning → Result (ℕ × SetEx) TypeEnd
members_word at wanted (words.Name name) = members_named at wanted name
members_word at wanted other = Err (word_refused at other)

abbrev pub condition_named : (at : ℕ) → Named → Result Cond TypeEnd
condition_named at (named.Variable v kind) = Err (WrongKind at)
condition_named at (named.Table t shape) = if are_truths shape.cells then named_alone at shape (cond.Cell t []) else Err (WrongKind at)

unfoldable pub condition_word : (at : ℕ) → Meaning → Result Cond TypeEnd
condition_word at (words.Truth b) = Ok (cond.Fixed b)
condition_word at (words.Name name) = condition_named at name
condition_word at other = Err (word_refused at other)

abbrev pub names_set : Named → Bool
names_set (named.Variable v (kinds.Set object)) = true
names_set (named.Variable v (kinds.Element object)) = false
names_set (named.Variable v kinds.Integer) = false
names_set (named.Table t shape) = are_sets shape.cells

unfoldable pub word_holds_set : Meaning → Bool
word_holds_set (words.Name name) = names_set name
word_holds_set other = false

-- ---- heads

-- what a list is refused as whose head is no operator and no table
abbrev pub head_refused : (at : ℕ) → Head → TypeEnd
head_refused at words.CostHead = CostPlace at
head_refused at words.LeftOut = Continuous at
head_refused at words.UnknownHead = UnknownName at
head_refused at other = WrongKind at
