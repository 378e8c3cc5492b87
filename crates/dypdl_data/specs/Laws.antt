-- What holds of data that is read, in the words of models.
use Rattle.std.specs.Prelude.{◌≡◌, ℕ, Bool, true, nat_le, not, ◌&&◌, List, [], ◌∷◌, ◌++◌, length, slice_get, Option, Some, Ok, IfOk, IsTrue}
use Rattle.std.specs.List.{list_all}
use Rattle.dp_base.specs.declared.place.Place.{Place}
use Rattle.dp_model.specs.Limits.{has_most, is_name, is_small_object, is_small_table, table_words}
use Rattle.dp_model.specs.Typing.{are_variables, are_tables, is_state, cell_count}
use Rattle.dp_model.specs.declared.parts.ObjectType.{ObjectType}
use Rattle.dp_model.specs.declared.parts.Variable.{Variable}
use Rattle.dp_model.specs.declared.parts.TableData.{TableData}
use Rattle.dp_model.specs.declared.parts.PlainState.{PlainState}
use Rattle.dypdl_nodes.specs.Shapes.{items_of, is_among}
use Rattle.dypdl_data.specs.Cells.{held_count, table_names, tables_of}
use Rattle.dypdl_data.specs.Target.{target_of}
use Rattle.yaml_tree.specs.declared.tree.Tree.{Tree}
use Rattle.dypdl_data.specs.Objects.{object_names, objects_of}
use Rattle.dypdl_data.specs.Variables.{variable_names, variables_of}

-- none of these names stands among those before it
abbrev pub are_new : (before names : List (List ℕ)) → Bool
are_new before [] = true
are_new before (name ∷ names) = not (is_among before name) && are_new (before ++ name ∷ []) names

-- at most 1,024 object types of at most 4,096 members, with names of 1 to 200 bytes that are different
pub record FitObjects (objects : List ObjectType) : Type 0 where
  pub few : IsTrue (has_most 1024 objects)
  pub small : IsTrue (list_all is_small_object objects)
  pub different : IsTrue (are_new [] (object_names objects))

-- at most 1,024 variables, of object types that are there, with names of 1 to 200 bytes that are different and none of the
-- object types'
pub record FitVariables (objects : List ObjectType) (variables : List Variable) : Type 0 where
  pub few : IsTrue (has_most 1024 variables)
  pub fit : IsTrue (are_variables objects variables)
  pub named : IsTrue (list_all (λ (v : Variable). is_name v.name) variables)
  pub different : IsTrue (are_new (object_names objects) (variable_names variables))

-- At most 1,024 tables, with names of 1 to 200 bytes that are different and none of the object types' and variables'. Each
-- has a cell for each choice of arguments, and all together have at most 16,777,216 words.
pub record FitTables (objects : List ObjectType) (variables : List Variable) (tables : List TableData) : Type 0 where
  pub few : IsTrue (has_most 1024 tables)
  pub small : IsTrue (list_all is_small_table tables)
  pub fit : IsTrue (are_tables objects tables)
  pub words : IsTrue (nat_le (table_words objects tables) 16777216)
  pub different : IsTrue (are_new (object_names objects ++ variable_names variables) (table_names tables))

abbrev pub LawObjects : Type 0
LawObjects = (at : Place) (names numbers : Option Tree) (objects : List ObjectType) → objects_of at names numbers ≡ Ok objects → FitObjects objects

abbrev pub LawVariables : Type 0
LawVariables = (objects : List ObjectType) (tree : Tree) (variables : List Variable) → variables_of objects tree ≡ Ok variables → FitVariables objects variables

-- as many variables as the list has items
abbrev pub LawEachVariable : Type 0
LawEachVariable = (objects : List ObjectType) (tree : Tree) (variables : List Variable) → variables_of objects tree ≡ Ok variables → IfOk (items_of tree) (λ items. length variables ≡ length items)

-- the target is a state
abbrev pub LawTarget : Type 0
LawTarget = (objects : List ObjectType) (variables : List Variable) (tree : Tree) (s : PlainState) → target_of objects variables tree ≡ Ok s → IsTrue (is_state objects variables s)

abbrev pub LawTables : Type 0
LawTables = (objects : List ObjectType) (variables : List Variable) (declared given : Option Tree) (tables : List TableData) → tables_of objects variables declared given ≡ Ok tables → FitTables objects variables tables

-- no two of all object types, variables and tables have one name
abbrev pub LawNames : Type 0
LawNames = (objects : List ObjectType) (variables : List Variable) (tables : List TableData) → FitObjects objects → FitVariables objects variables → FitTables objects variables tables → IsTrue (are_new [] ((object_names objects ++ variable_names variables) ++ table_names tables))

-- each table has a cell for each choice of arguments
abbrev pub LawCells : Type 0
LawCells = (objects : List ObjectType) (variables : List Variable) (tables : List TableData) (k : ℕ) (t : TableData) → FitTables objects variables tables → slice_get tables k ≡ Some t → held_count t.cells ≡ cell_count objects t.args
