-- How long the lists of a model may be, and how large its object types and tables.
use Rattle.std.specs.Prelude.{ℕ, ◌+◌, ◌*◌, ◌/◌, Bool, ◌&&◌, nat_lt, nat_le, List, length, max}
use Rattle.std.specs.List.{list_all, sum_by}
use Rattle.dp_model.specs.Typing.{type_count}
use Rattle.dp_model.specs.declared.parts.ObjectType.{ObjectType}
use Rattle.dp_model.specs.declared.parts.Variable.{Variable}
use Rattle.dp_model.specs.declared.parts.Cells.{Cells}
use Rattle.dp_model.specs.declared.parts.Cells.TheVariants as cells
use Rattle.dp_model.specs.declared.parts.TableData.{TableData}
use Rattle.dp_model.specs.declared.parts.Transition.{Transition}
use Rattle.dp_model.specs.declared.parts.Ground.{Ground}
use Rattle.dp_model.specs.declared.parts.BaseCase.{BaseCase}
use Rattle.dp_model.specs.declared.trees.Num.{Num}
use Rattle.dp_model.specs.declared.trees.Cond.{Cond}

-- no more than so many
abbrev pub has_most : {A : Type 0} → ℕ → List A → Bool
has_most most xs = nat_le (length xs) most

-- names have 1 to 200 bytes
abbrev pub is_name : List ℕ → Bool
is_name name = nat_lt 0 (length name) && has_most 200 name

abbrev pub is_small_object : ObjectType → Bool
is_small_object o = is_name o.name && nat_le o.count 4096

-- Words of a table's cells: one for a number or a truth value; for a set one for each two members of its object type,
-- rounded up, and one at least.
abbrev pub cell_words : List ObjectType → Cells → ℕ
cell_words objects (cells.Numbers xs) = length xs
cell_words objects (cells.Truths xs) = length xs
cell_words objects (cells.Sets object xs) = length xs * max 1 ((type_count objects object + 1) / 2)

abbrev pub table_words : List ObjectType → List TableData → ℕ
table_words objects tables = sum_by (λ (t : TableData). cell_words objects t.cells) tables

abbrev pub is_small_table : TableData → Bool
is_small_table t = is_name t.name && has_most 4 t.args

abbrev pub is_small_transition : Transition → Bool
is_small_transition t = is_name t.name && (has_most 4 t.params && has_most 256 t.preconditions)

abbrev pub is_small_base_case : BaseCase → Bool
is_small_base_case b = has_most 256 b.conditions

-- the object types, variables and tables are few and small
abbrev pub are_few_names : List ObjectType → List Variable → List TableData → Bool
are_few_names objects variables tables =
    has_most 1024 objects && (list_all is_small_object objects
    && (has_most 1024 variables && (list_all (λ (v : Variable). is_name v.name) variables
    && (has_most 1024 tables && (list_all is_small_table tables
    && nat_le (table_words objects tables) 16777216)))))

-- the transitions, with and without values for their parameters, and what states are tested by are few and small
abbrev pub are_few_rules : List Transition → List Ground → (constraints : List Cond) → List BaseCase → (bounds : List Num) → Bool
are_few_rules transitions grounds constraints base_cases bounds =
    has_most 65536 transitions && (list_all is_small_transition transitions
    && (has_most 65536 grounds
    && (has_most 65536 constraints
    && (has_most 65536 base_cases && (list_all is_small_base_case base_cases
    && has_most 1024 bounds)))))
