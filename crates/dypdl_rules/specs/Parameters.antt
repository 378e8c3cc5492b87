-- Parameters of transitions and variables of a `forall`.
use Rattle.std.specs.Prelude.{ℕ, List, [], ◌∷◌, ◌++◌, map, codes, Option, None, Some, option_map, option_and_then, Ok}
use Rattle.std.specs.Option.{option_or}
use Rattle.dp_base.specs.Results.{◌>>=◌, each}
use Rattle.dp_model.specs.declared.parts.VarKind.{VarKind}
use Rattle.dp_model.specs.declared.parts.VarKind.TheVariants as kinds
use Rattle.dp_model.specs.declared.trees.Over.{Over}
use Rattle.dp_model.specs.declared.trees.Over.TheVariants.{Object, Members}
use Rattle.dp_model.specs.Typing.{kind_at}
use Rattle.yaml_tree.specs.declared.tree.Tree.{Tree}
use Rattle.yaml_tree.specs.Fields.{tree_place}
use Rattle.dypdl_words.specs.declared.scope.Param.{Param}
use Rattle.dypdl_nodes.specs.Reads.{Reads, or_refuse}
use Rattle.dypdl_nodes.specs.Shapes.{items_or_none, keyed, needed}
use Rattle.dypdl_nodes.specs.Scalars.{text_of}
use Rattle.dypdl_data.specs.Names.{new_name, number_named}
use Rattle.dypdl_data.specs.Objects.{object_names}
use Rattle.dypdl_data.specs.Variables.{variable_names}
use Rattle.dypdl_rules.specs.Declarations.{Declared, taken_names}

abbrev pub parameter_keys : List (List ℕ)
parameter_keys = codes "name" ∷ codes "object" ∷ []

abbrev pub members_over : ℕ → Option VarKind → Option Over
members_over v (Some (kinds.Set object)) = Some (Members v)
members_over v (Some (kinds.Element object)) = None
members_over v (Some kinds.Integer) = None
members_over v None = None

-- an object type by its name, or the members of a set variable by its name
abbrev pub over_named : Declared → List ℕ → Option Over
over_named d word =
    option_or (option_map Object (number_named (object_names d.objects) word))
    (option_and_then (λ v. members_over v (kind_at d.variables v)) (number_named (variable_names d.variables) word))

-- what a parameter ranges over: another name is unknown here
abbrev pub over_of : Declared → Tree → Reads Over
over_of d tree = text_of tree >>= λ word. or_refuse 30 (tree_place tree) (over_named d word)

abbrev pub param_names : List Param → List (List ℕ)
param_names params = map (λ (p : Param). p.name) params

-- A parameter. Its name is none of an object type, a variable or a table, and is new in its list.
abbrev pub param_of : Declared → List Param → Tree → Reads Param
param_of d done item =
    keyed parameter_keys item >>= λ entries.
    needed (tree_place item) entries (codes "name") >>= λ name_tree.
    needed (tree_place item) entries (codes "object") >>= λ over_tree.
    new_name (taken_names d ++ param_names done) name_tree >>= λ name.
    over_of d over_tree >>= λ over.
    Ok (record { name = name; over = over })

abbrev pub param_step : Declared → List Param → Tree → Reads (List Param)
param_step d done item = param_of d done item >>= λ p. Ok (done ++ p ∷ [])

abbrev pub params_of : Declared → Option Tree → Reads (List Param)
params_of d tree = items_or_none 4 tree >>= λ items. each (param_step d) [] items

abbrev pub overs : List Param → List Over
overs params = map (λ (p : Param). p.over) params
