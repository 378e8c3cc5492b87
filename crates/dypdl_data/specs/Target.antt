-- The target state.
use Rattle.std.specs.Prelude.{ℕ, List, [], ◌∷◌, ◌++◌, length, replicate, slice_get, slice_set, Option, None, Some, Ok, pos}
use Rattle.dp_base.specs.declared.place.Place.{Place}
use Rattle.dp_base.specs.Results.{◌>>=◌, each}
use Rattle.dp_model.specs.Typing.{type_count}
use Rattle.dp_model.specs.declared.parts.ObjectType.{ObjectType}
use Rattle.dp_model.specs.declared.parts.Variable.{Variable}
use Rattle.dp_model.specs.declared.parts.VarKind.{VarKind}
use Rattle.dp_model.specs.declared.parts.VarKind.TheVariants as kinds
use Rattle.dp_model.specs.declared.parts.PlainValue.{PlainValue}
use Rattle.dp_model.specs.declared.parts.PlainValue.TheVariants as values
use Rattle.dp_model.specs.declared.parts.PlainState.{PlainState}
use Rattle.yaml_tree.specs.declared.tree.Tree.{Tree}
use Rattle.yaml_tree.specs.declared.tree.Pair.{Pair}
use Rattle.yaml_tree.specs.Fields.{tree_place}
use Rattle.dypdl_nodes.specs.Reads.{Reads, or_refuse}
use Rattle.dypdl_nodes.specs.Shapes.{entries_of}
use Rattle.dypdl_nodes.specs.Scalars.{number_of, number_between}
use Rattle.dypdl_data.specs.Names.{known_key}
use Rattle.dypdl_data.specs.Tables.{members_of}
use Rattle.dypdl_data.specs.Variables.{variable_names}

-- a value that a variable of this kind may hold: an element is any number of 32 bits
abbrev pub value_of : List ObjectType → VarKind → Tree → Reads PlainValue
value_of objects kinds.Integer tree = number_of tree >>= λ n. Ok (values.Number n)
value_of objects (kinds.Element object) tree = number_between (pos 0) (pos 4294967295) tree >>= λ n. Ok (values.Number n)
value_of objects (kinds.Set object) tree = members_of (type_count objects object) tree >>= λ set. Ok (values.Members set)

abbrev pub value_at : List ObjectType → (held : List (Option PlainValue)) → ℕ → Tree → Option Variable → Reads (List (Option PlainValue))
value_at objects held i tree None = Ok held
value_at objects held i tree (Some v) = value_of objects v.kind tree >>= λ x. Ok (slice_set held i (Some x))

abbrev pub target_step : List ObjectType → List Variable → (held : List (Option PlainValue)) → Pair → Reads (List (Option PlainValue))
target_step objects variables held pair =
    known_key 45 (variable_names variables) pair.key >>= λ i. value_at objects held i pair.value (slice_get variables i)

abbrev pub held_step : Place → List PlainValue → Option PlainValue → Reads (List PlainValue)
held_step at done held = or_refuse 45 at held >>= λ x. Ok (done ++ x ∷ [])

-- the target, which gives each variable a value
abbrev pub target_of : List ObjectType → List Variable → Tree → Reads PlainState
target_of objects variables tree =
    entries_of tree >>= λ entries.
    each (target_step objects variables) (replicate (length variables) None) entries >>= λ held.
    each (held_step (tree_place tree)) [] held >>= λ values.
    Ok (record { values = values })
