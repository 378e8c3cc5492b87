-- Conditions: an expression, or a map with a condition that must hold for each choice of some variables.
use Rattle.std.specs.Prelude.{ℕ, zero, suc, List, [], ◌∷◌, ◌++◌, codes, Option, Ok}
use Rattle.dp_base.specs.declared.place.Place.{Place}
use Rattle.dp_base.specs.Results.{◌>>=◌, each}
use Rattle.dp_model.specs.declared.trees.Cond.{Cond}
use Rattle.dp_model.specs.declared.trees.Cond.TheVariants as conds
use Rattle.yaml_tree.specs.declared.tree.Tree.{Tree}
use Rattle.yaml_tree.specs.declared.tree.Tree as trees
use Rattle.yaml_tree.specs.declared.tree.Pair.{Pair}
use Rattle.yaml_tree.specs.Fields.{tree_place, value_in}
use Rattle.dypdl_type.specs.Typing.{typing}
use Rattle.dypdl_words.specs.declared.scope.Param.{Param}
use Rattle.dypdl_nodes.specs.Reads.{Reads, refuse}
use Rattle.dypdl_nodes.specs.Shapes.{known_keys, needed, items_or_none}
use Rattle.dypdl_rules.specs.Declarations.{Declared, names_with}
use Rattle.dypdl_rules.specs.Expressions.{Reading, typed_by}
use Rattle.dypdl_rules.specs.Parameters.{params_of}

abbrev pub condition_keys : List (List ℕ)
condition_keys = codes "condition" ∷ codes "forall" ∷ []

-- a condition for each choice of these variables, the first slowest
abbrev pub for_all : List Param → Cond → Cond
for_all [] c = c
for_all (p ∷ ps) c = conds.All p.over (for_all ps c)

-- the variables of a map, and its condition, which stands in their force
pub record Quantifier : Type 0 where
  pub params : List Param
  pub condition : Tree

-- a map's keys, and its variables whole
abbrev pub quantifier_of : Declared → Place → List Pair → Reads Quantifier
quantifier_of d at entries =
    known_keys condition_keys entries >>= λ known.
    needed at known (codes "condition") >>= λ tree.
    params_of d (value_in (codes "forall") known) >>= λ params.
    Ok (record { params = params; condition = tree })

-- a map: its variables whole, and then its condition, in which they are in force behind the parameters outside
abbrev pub quantified : Declared → (inner : List Param → Tree → Reads Cond) → (outer : List Param) → Place → List Pair → Reads Cond
quantified d inner outer at entries =
    quantifier_of d at entries >>= λ q. inner (outer ++ q.params) q.condition >>= λ c. Ok (for_all q.params c)

abbrev pub condition_form : Reading → Declared → (inner : List Param → Tree → Reads Cond) → List Param → Tree → trees.Tree-F Tree Pair → Reads Cond
condition_form read d inner params tree (trees.Tree-F.Scalar at text) = typed_by read (λ e. (typing (names_with d params) e).condition) tree
condition_form read d inner params tree (trees.Tree-F.List at items) = refuse 50 at
condition_form read d inner params tree (trees.Tree-F.Map at entries) = quantified d inner params at entries

-- A condition with at most so many maps inside one another. No tree that is read is deeper than 64 nodes; a deeper one is
-- refused as such a tree.
unfoldable pub condition_within : Reading → Declared → (levels : ℕ) → List Param → Tree → Reads Cond
condition_within read d zero params tree = refuse 16 (tree_place tree)
condition_within read d (suc levels) params tree = condition_form read d (condition_within read d levels) params tree (trees.out-Tree tree)

abbrev pub condition_of : Reading → Declared → List Param → Tree → Reads Cond
condition_of read d params tree = condition_within read d 64 params tree

abbrev pub condition_step : Reading → Declared → List Param → List Cond → Tree → Reads (List Cond)
condition_step read d params done item = condition_of read d params item >>= λ c. Ok (done ++ c ∷ [])

-- conditions in order
abbrev pub conditions_in : Reading → Declared → List Param → List Tree → Reads (List Cond)
conditions_in read d params items = each (condition_step read d params) [] items

-- the conditions of a key, at most so many
unfoldable pub conditions_of : Reading → Declared → List Param → (most : ℕ) → Option Tree → Reads (List Cond)
conditions_of read d params most tree = items_or_none most tree >>= conditions_in read d params
