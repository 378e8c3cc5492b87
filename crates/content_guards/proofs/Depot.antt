-- The two files of the depot, read step by step.
use Rattle.std.proofs.Common.{◌≡◌, List, [], ◌∷◌, Some, refl, ap, ◌∙◌, Ok}
use Rattle.std.specs.Prelude.{codes, pos}
use Rattle.std.specs.Fmt.{digits}
use Rattle.dp_base.specs.declared.place.Place.{Place}
use Rattle.dp_base.specs.Results.{◌>>=◌}
use Rattle.dp_model.specs.declared.parts.JoinOp.TheVariants as joins
use Rattle.dp_model.specs.declared.parts.BaseCase.{BaseCase}
use Rattle.dp_model.specs.declared.parts.Ground.{Ground}
use Rattle.dp_model.specs.declared.trees.Num.TheVariants as nums
use Rattle.dp_model.specs.declared.trees.SetEx.TheVariants as sets
use Rattle.dp_model.specs.declared.trees.Cond.TheVariants as conds
use Rattle.yaml_tree.specs.declared.tree.Tree.{Tree}
use Rattle.yaml_tree.specs.declared.tree.Tree.TheVariants as trees
use Rattle.yaml_tree.specs.Fields.{form_place, tree_place}
use Rattle.dypdl_nodes.specs.Reads.{Reads}
use Rattle.dypdl_rules.specs.Expressions.{Reading, IsReading}
use Rattle.dypdl_rules.specs.Moves.{moves_of}
use Rattle.dypdl_rules.specs.BaseCases.{constraints_of, base_cases_of, bounds_of}
use Rattle.dypdl_load.specs.Settings.{Settings}
use Rattle.dypdl_load.specs.Meaning.{Data, data_of, Rules, rules_of, grounded_of, parts_with, meaning}
use Rattle.content_laws.specs.Worked.{word}
use Rattle.content_laws.proofs.Working.{rules_made}
use Rattle.content_guards.specs.Depot.{for_each, go_item, wait_item, first_case, second_case, depot_domain_entries, depot_problem_entries, depot_domain, depot_problem, depot, LawDepot}
use Rattle.content_guards.proofs.DepotData.{depot_names, depot_settings, settings, both_keys, data_read}
use Rattle.content_guards.proofs.DepotRules.{go_move, wait_move, moves, constraints, base_cases, bounds}

module _ (read : Reading) (at : Place) (is : IsReading read) where
  abbrev depot_rules : Rules
  depot_rules = record { moves = go_move read at is ∷ wait_move read at is ∷ []; join = joins.Most; constraints = depot.constraints; base_cases = depot.base_cases; bounds = depot.bounds }

  abbrev one : Tree → Tree
  one item = trees.List at (item ∷ [])

  abbrev first : BaseCase
  first = record { conditions = conds.Empty (sets.Var 0) ∷ []; cost = nums.Fixed (pos 0) }

  rules : rules_of read at (depot_settings at) depot_names ≡ Ok depot_rules
  rules =
      rules_made read at (depot_settings at) depot_names depot_rules first _
      (both_keys at (moves_of read depot_names) (codes "transitions") (codes "transitions") (Some (one (go_item at))) (Some (one (wait_item at))) (simp (trees.outs-Scalar) refl) (simp (trees.outs-Scalar) refl) ∙ moves read at is)
      refl
      (both_keys at (constraints_of read depot_names) (codes "constraints") (codes "constraints") (Some (one (word at (codes "(>= time 0)")))) (Some (one (for_each at (codes "left") (codes "(open j)")))) (simp (trees.outs-Scalar) refl) (simp (trees.outs-Scalar) refl)
      ∙ constraints read at is)
      (both_keys at (base_cases_of read depot_names) (codes "base_cases") (codes "base_cases") (Some (one (first_case at))) (Some (one (second_case at))) (simp (trees.outs-Scalar) refl) (simp (trees.outs-Scalar) refl) ∙ base_cases read at is)
      (both_keys at (bounds_of read depot_names) (codes "dual_bounds") (codes "dual_bounds") (Some (one (word at (codes "time")))) (Some (one (word at (codes "4")))) (simp (trees.outs-Scalar) refl) (simp (trees.outs-Scalar) refl) ∙ bounds read at is)

  grounds : grounded_of depot_names depot_rules.moves ≡ Ok depot.grounds
  unfolding digits
  grounds = refl

  pub depot_read : meaning read (depot_domain at) (depot_problem at) ≡ Ok depot
  unfolding meaning
  depot_read =
      ap (λ (r : Reads Settings). r >>= λ s. data_of (tree_place (depot_problem at)) s >>= λ x. rules_of read (tree_place (depot_domain at)) s x.declared >>= λ r. grounded_of x.declared r.moves >>= λ grounds. Ok (parts_with s x.declared x.target r grounds)) (settings at)
      ∙ ap (λ (p : Place). data_of p (depot_settings at) >>= λ x. rules_of read (tree_place (depot_domain at)) (depot_settings at) x.declared >>= λ r. grounded_of x.declared r.moves >>= λ grounds. Ok (parts_with (depot_settings at) x.declared x.target r grounds)) place_p
      ∙ ap (λ (r : Reads Data). r >>= λ x. rules_of read (tree_place (depot_domain at)) (depot_settings at) x.declared >>= λ r. grounded_of x.declared r.moves >>= λ grounds. Ok (parts_with (depot_settings at) x.declared x.target r grounds)) (data_read at)
      ∙ ap (λ (p : Place). rules_of read p (depot_settings at) depot_names >>= λ r. grounded_of depot_names r.moves >>= λ grounds. Ok (parts_with (depot_settings at) depot_names depot.target r grounds)) place_d
      ∙ ap (λ (r : Reads Rules). r >>= λ r. grounded_of depot_names r.moves >>= λ grounds. Ok (parts_with (depot_settings at) depot_names depot.target r grounds)) rules
      ∙ ap (λ (r : Reads (List Ground)). r >>= λ grounds. Ok (parts_with (depot_settings at) depot_names depot.target depot_rules grounds)) grounds
    where
      place_p : tree_place (depot_problem at) ≡ at
      place_p = ap form_place (trees.outs-Map at (depot_problem_entries at))

      place_d : tree_place (depot_domain at) ≡ at
      place_d = ap form_place (trees.outs-Map at (depot_domain_entries at))

pub depot_law : LawDepot
depot_law read at is = depot_read read at is
