-- Base cases, state constraints and dual bounds.
use Rattle.std.specs.Prelude.{ℕ, List, [], ◌∷◌, ◌++◌, codes, Option, None, Some, Ok, pos}
use Rattle.dp_base.specs.declared.place.Place.{Place}
use Rattle.dp_base.specs.Results.{◌>>=◌}
use Rattle.dp_model.specs.declared.parts.BaseCase.{BaseCase}
use Rattle.dp_model.specs.declared.trees.Cond.{Cond}
use Rattle.dp_model.specs.declared.trees.Num.{Num}
use Rattle.dp_model.specs.declared.trees.Num.TheVariants as nums
use Rattle.yaml_tree.specs.declared.tree.Tree.{Tree}
use Rattle.yaml_tree.specs.declared.tree.Tree as trees
use Rattle.yaml_tree.specs.declared.tree.Pair.{Pair}
use Rattle.yaml_tree.specs.Fields.{value_in}
use Rattle.dypdl_type.specs.Typing.{typing}
use Rattle.dypdl_nodes.specs.Reads.{Reads}
use Rattle.dypdl_nodes.specs.Shapes.{few_items, known_keys, needed}
use Rattle.dypdl_rules.specs.Declarations.{Declared, names_with}
use Rattle.dypdl_rules.specs.Expressions.{Reading, typed_by}
use Rattle.dypdl_rules.specs.Conditions.{condition_step, conditions_in}
use Rattle.dypdl_rules.specs.Moves.{in_both}

abbrev pub base_case_keys : List (List ℕ)
base_case_keys = codes "conditions" ∷ codes "cost" ∷ []

-- a number expression outside transitions
unfoldable pub number_in : Reading → Declared → Tree → Reads Num
number_in read d tree = typed_by read (λ e. (typing (names_with d []) e).number) tree

-- the cost of a base case, 0 where none is given
abbrev pub base_cost_of : Reading → Declared → Option Tree → Reads Num
base_cost_of read d None = Ok (nums.Fixed (pos 0))
base_cost_of read d (Some tree) = number_in read d tree

-- conditions, of which a base case has at most 256
abbrev pub listed_case : Reading → Declared → Tree → Reads BaseCase
listed_case read d tree =
    few_items 256 tree >>= λ items. conditions_in read d [] items >>= λ conditions.
    Ok (record { conditions = conditions; cost = nums.Fixed (pos 0) })

abbrev pub mapped_case : Reading → Declared → Place → List Pair → Reads BaseCase
mapped_case read d at entries =
    known_keys base_case_keys entries >>= λ known.
    needed at known (codes "conditions") >>= λ list.
    few_items 256 list >>= λ items.
    conditions_in read d [] items >>= λ conditions.
    base_cost_of read d (value_in (codes "cost") known) >>= λ cost.
    Ok (record { conditions = conditions; cost = cost })

abbrev pub base_case_form : Reading → Declared → Tree → trees.Tree-F Tree Pair → Reads BaseCase
base_case_form read d tree (trees.Tree-F.Map at entries) = mapped_case read d at entries
base_case_form read d tree (trees.Tree-F.List at items) = listed_case read d tree
base_case_form read d tree (trees.Tree-F.Scalar at text) = listed_case read d tree

-- A list of conditions, with cost 0, or a map with a cost. An empty scalar is a list without conditions.
abbrev pub base_case_of : Reading → Declared → Tree → Reads BaseCase
base_case_of read d tree = base_case_form read d tree (trees.out-Tree tree)

abbrev pub base_case_step : Reading → Declared → List BaseCase → Tree → Reads (List BaseCase)
base_case_step read d done item = base_case_of read d item >>= λ b. Ok (done ++ b ∷ [])

abbrev pub bound_step : Reading → Declared → List Num → Tree → Reads (List Num)
bound_step read d done item = number_in read d item >>= λ n. Ok (done ++ n ∷ [])

abbrev pub constraints_of : Reading → Declared → (domain problem : Option Tree) → Reads (List Cond)
constraints_of read d domain problem = in_both 65536 (condition_step read d []) domain problem

abbrev pub base_cases_of : Reading → Declared → (domain problem : Option Tree) → Reads (List BaseCase)
base_cases_of read d domain problem = in_both 65536 (base_case_step read d) domain problem

abbrev pub bounds_of : Reading → Declared → (domain problem : Option Tree) → Reads (List Num)
bounds_of read d domain problem = in_both 1024 (bound_step read d) domain problem
