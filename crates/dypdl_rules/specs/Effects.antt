-- Effects: a value for a variable.
use Rattle.std.specs.Prelude.{ℕ, Bool, not, ◌==◌, List, [], ◌∷◌, ◌++◌, Option, None, Some, Ok}
use Rattle.std.specs.List.{list_any}
use Rattle.dp_base.specs.Results.{◌>>=◌, each}
use Rattle.dp_model.specs.Typing.{effect_variable, kind_at}
use Rattle.dp_model.specs.declared.parts.Effect.{Effect}
use Rattle.dp_model.specs.declared.parts.Effect.TheVariants as effects
use Rattle.dp_model.specs.declared.parts.VarKind.{VarKind}
use Rattle.dp_model.specs.declared.parts.VarKind.TheVariants as kinds
use Rattle.yaml_tree.specs.declared.tree.Tree.{Tree}
use Rattle.yaml_tree.specs.declared.tree.Pair.{Pair}
use Rattle.yaml_tree.specs.Fields.{tree_place}
use Rattle.dypdl_type.specs.Typing.{typing, members_of}
use Rattle.dypdl_words.specs.declared.scope.Param.{Param}
use Rattle.dypdl_nodes.specs.Reads.{Reads, holds}
use Rattle.dypdl_nodes.specs.Shapes.{entries_or_none}
use Rattle.dypdl_data.specs.Names.{known_key}
use Rattle.dypdl_data.specs.Variables.{variable_names}
use Rattle.dypdl_rules.specs.Declarations.{Declared, names_with}
use Rattle.dypdl_rules.specs.Expressions.{Reading, typed_by}

-- what a variable of this kind is set to
abbrev pub effect_on : Reading → Declared → List Param → ℕ → Tree → Option VarKind → Reads (List Effect)
effect_on read d params v tree None = Ok []
effect_on read d params v tree (Some kinds.Integer) = typed_by read (λ e. (typing (names_with d params) e).number) tree >>= λ n. Ok (effects.Number v n ∷ [])
effect_on read d params v tree (Some (kinds.Element object)) = typed_by read (λ e. (typing (names_with d params) e).number) tree >>= λ n. Ok (effects.Number v n ∷ [])
effect_on read d params v tree (Some (kinds.Set object)) = typed_by read (λ e. members_of object (typing (names_with d params) e)) tree >>= λ s. Ok (effects.Members v s ∷ [])

abbrev pub sets_variable : ℕ → List Effect → Bool
sets_variable v done = list_any (λ (e : Effect). effect_variable e == v) done

-- One more effect. A variable that is set twice is refused; no map that is read has a key twice.
unfoldable pub effect_step : Reading → Declared → List Param → List Effect → Pair → Reads (List Effect)
effect_step read d params done pair =
    known_key 30 (variable_names d.variables) pair.key >>= λ v.
    holds (not (sets_variable v done)) 43 (tree_place pair.key) >>= λ fresh.
    effect_on read d params v pair.value (kind_at d.variables v) >>= λ more.
    Ok (done ++ more)

unfoldable pub effects_of : Reading → Declared → List Param → Option Tree → Reads (List Effect)
effects_of read d params tree = entries_or_none tree >>= λ entries. each (effect_step read d params) [] entries
