-- What evaluators keep of a model's tables.
use Rattle.std.specs.Prelude.{◌≡◌, ℕ, List, [], map, slice_get, Option, Some, option_and_then}
use Rattle.dp_model.specs.Evaluation.{count_of, counts_of, cells_of, cells_object}
use Rattle.dp_model.specs.declared.parts.Cells.{Cells}
use Rattle.dp_model.specs.declared.parts.Cells.TheVariants as cells
use Rattle.dp_model.specs.declared.parts.TableData.{TableData}
use Rattle.dp_model.specs.declared.whole.Model.{Model}
use Rattle.state_layout.specs.Signatures.{set_words}
use Rattle.packed_words.specs.declared.tables.Shape.{Shape}
use Rattle.packed_words.specs.declared.tables.Tables.{Tables}

-- the cells of a table of sets
abbrev pub sets_of : Cells → List (List ℕ)
sets_of (cells.Sets object xs) = xs
sets_of (cells.Numbers xs) = []
sets_of (cells.Truths xs) = []

-- how many members the object type of each argument has, how many that of the table's sets has, and the words of each set
abbrev pub shape_of : Model → TableData → Shape
shape_of m t = record {
  counts = counts_of m t.args;
  members = count_of m (cells_object t.cells);
  sets = map (set_words (count_of m (cells_object t.cells))) (sets_of t.cells);
}

-- the shape of each table, in order
abbrev pub AreTablesOf : Model → Tables → Type 0
AreTablesOf m tables = tables.shapes ≡ map (shape_of m) m.tables

-- what is kept of a table, if it is there
abbrev pub shape_in : Model → ℕ → Option Shape
shape_in m t = option_and_then (λ (x : TableData). Some (shape_of m x)) (slice_get m.tables t)

-- the words of the set in a table's cell, if it is there
abbrev pub cell_in : Model → ℕ → ℕ → Option (List ℕ)
cell_in m t place = option_and_then (λ (xs : List ℕ). Some (set_words (count_of m (cells_object (cells_of m t))) xs)) (slice_get (sets_of (cells_of m t)) place)
