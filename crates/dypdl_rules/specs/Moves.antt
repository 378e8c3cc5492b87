-- Transitions, with what is still asked of all of them together: how each joins its weight, and where it stands.
use Rattle.std.specs.Prelude.{ℕ, ◌-◌, if◌then◌else◌, List, [], ◌∷◌, ◌++◌, length, codes, Option, None, Some, Ok}
use Rattle.std.specs.Str.{bytes_eq}
use Rattle.dp_base.specs.declared.place.Place.{Place}
use Rattle.dp_base.specs.Results.{◌>>=◌, each}
use Rattle.dp_model.specs.declared.parts.Transition.{Transition}
use Rattle.yaml_tree.specs.declared.tree.Tree.{Tree}
use Rattle.yaml_tree.specs.declared.tree.Pair.{Pair}
use Rattle.yaml_tree.specs.Fields.{tree_place, value_in}
use Rattle.dypdl_type.specs.Typing.{cost_typing}
use Rattle.dypdl_type.specs.declared.cost.CostForm.{CostForm}
use Rattle.dypdl_type.specs.declared.cost.CostForm.TheVariants.{Bare, Joined}
use Rattle.dypdl_words.specs.declared.scope.Param.{Param}
use Rattle.dypdl_nodes.specs.Reads.{Reads, refuse}
use Rattle.dypdl_nodes.specs.Shapes.{items_or_none, keyed, needed}
use Rattle.dypdl_nodes.specs.Scalars.{text_of, truth_or_false}
use Rattle.dypdl_data.specs.Names.{name_by, is_transition_name}
use Rattle.dypdl_rules.specs.Declarations.{Declared, names_with}
use Rattle.dypdl_rules.specs.Expressions.{Reading, typed_by}
use Rattle.dypdl_rules.specs.Parameters.{params_of, overs}
use Rattle.dypdl_rules.specs.Conditions.{conditions_of}
use Rattle.dypdl_rules.specs.Effects.{effects_of}
use Rattle.dypdl_rules.specs.declared.transitions.Joining.{Joining}
use Rattle.dypdl_rules.specs.declared.transitions.Weighing.{Weighing}
use Rattle.dypdl_rules.specs.declared.transitions.Move.{Move}

abbrev pub transition_keys : List (List ℕ)
transition_keys =
    codes "name" ∷ codes "parameters" ∷ codes "preconditions" ∷ codes "effects" ∷ codes "cost" ∷ codes "forced" ∷ codes "direction" ∷ []

-- ---- costs

abbrev pub weighing : Place → CostForm → Weighing
weighing at Bare = record { weight = None; joining = None }
weighing at (Joined op n) = record { weight = Some n; joining = Some (record { op = op; place = at }) }

-- a cost expression; a missing one is `cost`
unfoldable pub weighing_of : Reading → Declared → List Param → Option Tree → Reads Weighing
weighing_of read d params None = Ok (record { weight = None; joining = None })
weighing_of read d params (Some tree) = typed_by read (cost_typing (names_with d params)) tree >>= λ form. Ok (weighing (tree_place tree) form)

-- ---- directions

abbrev pub direction_named : Place → List ℕ → Reads (Unit {0})
direction_named at word = if bytes_eq word (codes "forward") then Ok tt else refuse 52 at

-- only forward transitions are built
unfoldable pub direction_of : Option Tree → Reads (Unit {0})
direction_of None = Ok tt
direction_of (Some tree) = text_of tree >>= direction_named (tree_place tree)

-- ---- transitions

-- what a transition does where its parameters are in force
pub record Body : Type 0 where
  pub transition : Transition
  pub joining : Option Joining

unfoldable pub body_of : Reading → Declared → (name : List ℕ) → List Param → List Pair → Reads Body
body_of read d name params entries =
    conditions_of read d params 256 (value_in (codes "preconditions") entries) >>= λ preconditions.
    effects_of read d params (value_in (codes "effects") entries) >>= λ effects.
    weighing_of read d params (value_in (codes "cost") entries) >>= λ w.
    truth_or_false (value_in (codes "forced") entries) >>= λ forced.
    direction_of (value_in (codes "direction") entries) >>= λ forward.
    Ok (record {
      transition = record { name = name; params = overs params; forced = forced; preconditions = preconditions; effects = effects; weight = w.weight };
      joining = w.joining;
    })

unfoldable pub move_of : Reading → Declared → Tree → Reads Move
move_of read d item =
    keyed transition_keys item >>= λ entries.
    needed (tree_place item) entries (codes "name") >>= λ name_tree.
    name_by is_transition_name name_tree >>= λ name.
    params_of d (value_in (codes "parameters") entries) >>= λ params.
    body_of read d name params entries >>= λ b.
    Ok (record { transition = b.transition; joining = b.joining; place = tree_place item })

abbrev pub move_step : Reading → Declared → List Move → Tree → Reads (List Move)
move_step read d done item = move_of read d item >>= λ m. Ok (done ++ m ∷ [])

-- The items of the domain's list and then those of the problem's, which is too long where both together are.
abbrev pub in_both : {A : Type 0} → (most : ℕ) → (List A → Tree → Reads (List A)) → (domain problem : Option Tree) → Reads (List A)
in_both most step domain problem =
    items_or_none most domain >>= λ first.
    each step [] first >>= λ done.
    items_or_none (most - length first) problem >>= λ second.
    each step done second

abbrev pub moves_of : Reading → Declared → (domain problem : Option Tree) → Reads (List Move)
moves_of read d domain problem = in_both 65536 (move_step read d) domain problem
