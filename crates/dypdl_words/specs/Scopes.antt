-- The names that an expression may use, and what they stand for.
use Rattle.std.specs.Prelude.{◌≡◌, ℕ, suc, Bool, if◌then◌else◌, List, [], ◌∷◌, Option, Some, None, String}
use Rattle.std.specs.Option.{option_or}
use Rattle.std.specs.Str.{bytes_eq}
use Rattle.std.specs.HashMap.{HashMap, get_by_text}
use Rattle.dp_model.specs.declared.parts.Variable.{Variable}
use Rattle.dp_model.specs.declared.parts.Cells.{Cells}
use Rattle.dp_model.specs.declared.parts.Cells.TheVariants as cells
use Rattle.dp_model.specs.declared.parts.TableData.{TableData}
use Rattle.dypdl_words.specs.declared.scope.CellKind.{CellKind}
use Rattle.dypdl_words.specs.declared.scope.CellKind.TheVariants as kinds
use Rattle.dypdl_words.specs.declared.scope.Shape.{Shape}
use Rattle.dypdl_words.specs.declared.scope.Named.{Named}
use Rattle.dypdl_words.specs.declared.scope.Named.TheVariants as named
use Rattle.dypdl_words.specs.declared.scope.Param.{Param}

-- ---- in a model's lists

-- the kind of a table's cells; whole numbers are those of elements where the table says so
abbrev pub cell_kind : (element : Bool) → Cells → CellKind
cell_kind element (cells.Numbers xs) = if element then kinds.Element else kinds.Integer
cell_kind element (cells.Truths xs) = kinds.Truth
cell_kind element (cells.Sets object xs) = kinds.Set object

abbrev pub shape_of : TableData → Shape
shape_of t = record { args = t.args; cells = cell_kind t.element t.cells }

-- the first variable of a name, counted from `at` on
abbrev pub variable_named : (at : ℕ) → List Variable → List ℕ → Option Named
variable_named at [] word = None
variable_named at (v ∷ vs) word = if bytes_eq v.name word then Some (named.Variable at v.kind) else variable_named (suc at) vs word

-- the first table of a name, counted from `at` on
abbrev pub table_named : (at : ℕ) → List TableData → List ℕ → Option Named
table_named at [] word = None
table_named at (t ∷ ts) word = if bytes_eq t.name word then Some (named.Table at (shape_of t)) else table_named (suc at) ts word

-- the variable or the table of a name
abbrev pub declared : List Variable → List TableData → List ℕ → Option Named
declared variables tables word = option_or (variable_named 0 variables word) (table_named 0 tables word)

-- ---- in a scope

-- a model's variables and tables, and the parameters in force, the innermost one last
pub record Names : Type 0 where
  pub variables : List Variable
  pub tables : List TableData
  pub params : List Param

-- the variable or the table that a word names
abbrev pub name_in : Names → List ℕ → Option Named
name_in names word = declared names.variables names.tables word

-- the innermost parameter of a name, counted from `at` on
abbrev pub innermost : (at : ℕ) → List Param → List ℕ → Option ℕ
innermost at [] word = None
innermost at (p ∷ ps) word = option_or (innermost (suc at) ps word) (if bytes_eq p.name word then Some at else None)

abbrev pub param_in : Names → List ℕ → Option ℕ
param_in names word = innermost 0 names.params word

-- ---- names as they are added, of which the first counts

abbrev pub AddsVariables : {A S : Type 0} → (old new : HashMap (String A) Named S) → List Variable → Type 0
AddsVariables old new variables = (word : List ℕ) → get_by_text new word ≡ option_or (get_by_text old word) (variable_named 0 variables word)

abbrev pub AddsTables : {A S : Type 0} → (old new : HashMap (String A) Named S) → List TableData → Type 0
AddsTables old new tables = (word : List ℕ) → get_by_text new word ≡ option_or (get_by_text old word) (table_named 0 tables word)

-- each word has there what it names in these lists
abbrev pub Holds : {A S : Type 0} → HashMap (String A) Named S → List Variable → List TableData → Type 0
Holds names variables tables = (word : List ℕ) → get_by_text names word ≡ declared variables tables word
