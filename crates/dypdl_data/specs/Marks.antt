-- Sets of members as a mark for each member: what the reader of members keeps.
use Rattle.std.specs.Prelude.{ℕ, ◌+◌, Bool, true, false, List, [], ◌∷◌, replicate, slice_set, Ok}
use Rattle.dp_base.specs.Results.{◌>>=◌, each}
use Rattle.yaml_tree.specs.declared.tree.Tree.{Tree}
use Rattle.dypdl_nodes.specs.Reads.{Reads}
use Rattle.dypdl_nodes.specs.Shapes.{items_of}
use Rattle.dypdl_nodes.specs.Scalars.{index_of}

abbrev pub mark_step : (count : ℕ) → List Bool → Tree → Reads (List Bool)
mark_step count marks item = index_of count item >>= λ k. Ok (slice_set marks k true)

-- the members that are marked, counted from k
abbrev pub marked_from : (k : ℕ) → List Bool → List ℕ
marked_from k [] = []
marked_from k (true ∷ marks) = k ∷ marked_from (k + 1) marks
marked_from k (false ∷ marks) = marked_from (k + 1) marks

-- the members that a list names, by marks
abbrev pub marked_in : (count : ℕ) → Tree → Reads (List ℕ)
marked_in count tree = items_of tree >>= λ items. each (mark_step count) (replicate count false) items >>= λ marks. Ok (marked_from 0 marks)
