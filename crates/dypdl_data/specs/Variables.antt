-- State variables.
use Rattle.std.specs.Prelude.{ℕ, if◌then◌else◌, List, [], ◌∷◌, ◌++◌, map, codes, Option, None, Some, Ok}
use Rattle.std.specs.Str.{bytes_eq}
use Rattle.dp_base.specs.declared.place.Place.{Place}
use Rattle.dp_base.specs.Results.{◌>>=◌, each}
use Rattle.dp_model.specs.declared.parts.ObjectType.{ObjectType}
use Rattle.dp_model.specs.declared.parts.Variable.{Variable}
use Rattle.dp_model.specs.declared.parts.VarKind.{VarKind}
use Rattle.dp_model.specs.declared.parts.VarKind.TheVariants as kinds
use Rattle.dp_model.specs.declared.parts.Preference.{Preference}
use Rattle.dp_model.specs.declared.parts.Preference.TheVariants.{Without, Less, Greater}
use Rattle.yaml_tree.specs.declared.tree.Tree.{Tree}
use Rattle.yaml_tree.specs.declared.tree.Pair.{Pair}
use Rattle.yaml_tree.specs.Fields.{tree_place, value_in}
use Rattle.dypdl_nodes.specs.Reads.{Reads, refuse}
use Rattle.dypdl_nodes.specs.Shapes.{few_items, keyed, needed}
use Rattle.dypdl_nodes.specs.Scalars.{text_of}
use Rattle.dypdl_data.specs.Names.{new_name}
use Rattle.dypdl_data.specs.Objects.{object_names, known_object}

abbrev pub variable_keys : List (List ℕ)
variable_keys = codes "name" ∷ codes "type" ∷ codes "object" ∷ codes "preference" ∷ []

abbrev pub variable_names : List Variable → List (List ℕ)
variable_names variables = map (λ (v : Variable). v.name) variables

-- the object type that the map at this place must name
abbrev pub object_at : List ObjectType → Place → List Pair → Reads ℕ
object_at objects at entries = needed at entries (codes "object") >>= known_object objects

-- what the variable at this place holds, by the word at that one
abbrev pub kind_named : List ObjectType → Place → List Pair → (word_at : Place) → List ℕ → Reads VarKind
kind_named objects at entries word_at word =
    if bytes_eq word (codes "integer") then Ok kinds.Integer
    else (if bytes_eq word (codes "element") then (object_at objects at entries >>= λ o. Ok (kinds.Element o))
    else (if bytes_eq word (codes "set") then (object_at objects at entries >>= λ o. Ok (kinds.Set o))
    else (if bytes_eq word (codes "continuous") then refuse 34 word_at else refuse 50 word_at)))

abbrev pub kind_of : List ObjectType → Place → List Pair → Tree → Reads VarKind
kind_of objects at entries tree = text_of tree >>= kind_named objects at entries (tree_place tree)

abbrev pub preference_named : Place → List ℕ → Reads Preference
preference_named at word = if bytes_eq word (codes "less") then Ok Less else (if bytes_eq word (codes "greater") then Ok Greater else refuse 50 at)

-- which values of the variable are better: of a set none can be
abbrev pub preference_of : VarKind → Option Tree → Reads Preference
preference_of kind None = Ok Without
preference_of (kinds.Set object) (Some tree) = refuse 50 (tree_place tree)
preference_of (kinds.Element object) (Some tree) = text_of tree >>= preference_named (tree_place tree)
preference_of kinds.Integer (Some tree) = text_of tree >>= preference_named (tree_place tree)

abbrev pub variable_of : List ObjectType → (taken : List (List ℕ)) → Tree → Reads Variable
variable_of objects taken item =
    keyed variable_keys item >>= λ entries.
    needed (tree_place item) entries (codes "name") >>= λ name_tree.
    needed (tree_place item) entries (codes "type") >>= λ kind_tree.
    new_name taken name_tree >>= λ name.
    kind_of objects (tree_place item) entries kind_tree >>= λ kind.
    preference_of kind (value_in (codes "preference") entries) >>= λ preference.
    Ok (record { name = name; kind = kind; preference = preference })

-- names of object types and variables are different
abbrev pub variable_step : List ObjectType → List Variable → Tree → Reads (List Variable)
variable_step objects done item = variable_of objects (object_names objects ++ variable_names done) item >>= λ v. Ok (done ++ v ∷ [])

abbrev pub variables_of : List ObjectType → Tree → Reads (List Variable)
variables_of objects tree = few_items 1024 tree >>= λ items. each (variable_step objects) [] items
