-- What expressions may name: object types, variables and tables.
use Rattle.std.specs.Prelude.{◌≡◌, ℕ, List, ◌++◌, map, Option, None, Some, String}
use Rattle.std.specs.HashMap.{HashMap, get_by_text}
use Rattle.dp_model.specs.Typing.{kind_at}
use Rattle.dp_model.specs.declared.parts.ObjectType.{ObjectType}
use Rattle.dp_model.specs.declared.parts.Variable.{Variable}
use Rattle.dp_model.specs.declared.parts.VarKind.{VarKind}
use Rattle.dp_model.specs.declared.parts.TableData.{TableData}
use Rattle.dypdl_words.specs.Scopes.{Names}
use Rattle.dypdl_words.specs.declared.scope.Param.{Param}
use Rattle.dypdl_data.specs.Names.{number_named}
use Rattle.dypdl_data.specs.Objects.{object_names}
use Rattle.dypdl_data.specs.Variables.{variable_names}

pub record Declared : Type 0 where
  pub objects : List ObjectType
  pub variables : List Variable
  pub tables : List TableData

-- the names in force with these parameters
abbrev pub names_with : Declared → List Param → Names
names_with d params = record { variables = d.variables; tables = d.tables; params = params }

-- the names that no parameter may have
abbrev pub taken_names : Declared → List (List ℕ)
taken_names d = object_names d.objects ++ (variable_names d.variables ++ map (λ (t : TableData). t.name) d.tables)

-- what is declared, and the parameters in force, the innermost one last
pub record InForce : Type 0 where
  pub lists : Declared
  pub params : List Param

-- ---- names by hash

-- each word has there its number among these names
abbrev pub Numbers : {A S : Type 0} → HashMap (String A) ℕ S → (names : List (List ℕ)) → Type 0
Numbers map names = (word : List ℕ) → get_by_text map word ≡ number_named names word

-- what is found is the first variable of this name, with its kind, and nothing where there is none
abbrev pub IsVariable : List Variable → List ℕ → Option (ℕ × VarKind) → Type 0
IsVariable variables word (Some found) = (number_named (variable_names variables) word ≡ Some found.0) × (kind_at variables found.0 ≡ Some found.1)
IsVariable variables word None = number_named (variable_names variables) word ≡ None
