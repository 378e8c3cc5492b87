-- Object types and how many members each has.
use Rattle.std.specs.Prelude.{ℕ, nat_le, if◌then◌else◌, List, [], ◌∷◌, ◌++◌, length, map, replicate, slice_set, zip, Option, None, Some, Ok}
use Rattle.dp_base.specs.declared.place.Place.{Place}
use Rattle.dp_base.specs.Results.{◌>>=◌, each}
use Rattle.dp_model.specs.declared.parts.ObjectType.{ObjectType}
use Rattle.yaml_tree.specs.declared.tree.Tree.{Tree}
use Rattle.yaml_tree.specs.declared.tree.Pair.{Pair}
use Rattle.yaml_tree.specs.Fields.{tree_place}
use Rattle.dypdl_nodes.specs.Reads.{Reads, refuse, or_refuse}
use Rattle.dypdl_nodes.specs.Shapes.{items_or_none, entries_or_none}
use Rattle.dypdl_nodes.specs.Scalars.{count_of}
use Rattle.dypdl_data.specs.Names.{new_name, known_key, known_name}

abbrev pub object_names : List ObjectType → List (List ℕ)
object_names objects = map (λ (o : ObjectType). o.name) objects

abbrev pub object_step : (names : List (List ℕ)) → Tree → Reads (List (List ℕ))
object_step names item = new_name names item >>= λ name. Ok (names ++ name ∷ [])

-- the names of the object types
abbrev pub names_of : Option Tree → Reads (List (List ℕ))
names_of tree = items_or_none 1024 tree >>= λ items. each object_step [] items

-- how many members an object type has
abbrev pub member_count : Tree → Reads ℕ
member_count tree = count_of tree >>= λ n. if nat_le n 4096 then Ok n else refuse 49 (tree_place tree)

abbrev pub number_step : (names : List (List ℕ)) → (counts : List (Option ℕ)) → Pair → Reads (List (Option ℕ))
number_step names counts pair = known_key 30 names pair.key >>= λ i. member_count pair.value >>= λ n. Ok (slice_set counts i (Some n))

abbrev pub counts_of : (names : List (List ℕ)) → Option Tree → Reads (List (Option ℕ))
counts_of names tree = entries_or_none tree >>= λ entries. each (number_step names) (replicate (length names) None) entries

abbrev pub given_step : Place → List ObjectType → List ℕ × Option ℕ → Reads (List ObjectType)
given_step at done given = or_refuse 40 at given.1 >>= λ n. Ok (done ++ record { name = given.0; count = n } ∷ [])

-- The object types that a domain names, with the numbers that a problem gives, all of which it must give. `at` is the
-- problem's place.
abbrev pub objects_of : (at : Place) → (names numbers : Option Tree) → Reads (List ObjectType)
objects_of at names numbers =
    names_of names >>= λ words. counts_of words numbers >>= λ counts. each (given_step at) [] (zip words counts)

-- the number of an object type that is named
abbrev pub known_object : List ObjectType → Tree → Reads ℕ
known_object objects tree = known_name (object_names objects) tree
