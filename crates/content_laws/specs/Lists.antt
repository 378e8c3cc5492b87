-- The lists that may stand in both files.
use Rattle.std.specs.Prelude.{◌≡◌, List, [], map, codes, Ok}
use Rattle.dp_base.specs.Results.{in_turn}
use Rattle.dp_model.specs.declared.whole.Model.{Model}
use Rattle.yaml_tree.specs.declared.tree.Tree.{Tree}
use Rattle.dypdl_rules.specs.Declarations.{Declared}
use Rattle.dypdl_rules.specs.Expressions.{Reading}
use Rattle.dypdl_rules.specs.Conditions.{condition_of}
use Rattle.dypdl_rules.specs.Moves.{move_of}
use Rattle.dypdl_rules.specs.BaseCases.{base_case_of, number_in}
use Rattle.dypdl_rules.specs.declared.transitions.Move.{Move}
use Rattle.dypdl_load.specs.Meaning.{meaning, parts_of}
use Rattle.content_laws.specs.Files.{items_of_both}

-- what expressions of a model may name
abbrev pub names_of : Model → Declared
names_of m = record { objects = m.objects; variables = m.variables; tables = m.tables }

-- Of each list a model has what its items stand for, each read alone, in order: the domain's items and then the problem's.
pub record HasBoth (read : Reading) (domain problem : Tree) (m : Model) : Type 0 where
  pub moves : List Move
  pub transitions : in_turn (move_of read (names_of m)) (items_of_both domain problem (codes "transitions")) ≡ Ok moves
  pub are_moves : m.transitions ≡ map (λ (x : Move). x.transition) moves
  pub constraints : in_turn (condition_of read (names_of m) []) (items_of_both domain problem (codes "constraints")) ≡ Ok m.constraints
  pub base_cases : in_turn (base_case_of read (names_of m)) (items_of_both domain problem (codes "base_cases")) ≡ Ok m.base_cases
  pub bounds : in_turn (number_in read (names_of m)) (items_of_both domain problem (codes "dual_bounds")) ≡ Ok m.bounds

-- this holds of each model that two trees mean, of which `specs/Worked` writes some out
abbrev pub LawLists : Type 0
LawLists = (read : Reading) (domain problem : Tree) (m : Model) → meaning read domain problem ≡ Ok (parts_of m) → HasBoth read domain problem m
