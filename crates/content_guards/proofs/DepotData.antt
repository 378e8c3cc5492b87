-- What the two files of the depot declare, and its target.
use Rattle.std.proofs.Common.{◌≡◌, ℕ, true, List, [], ◌∷◌, map, Option, Some, refl, ap, ◌∙◌, Ok}
use Rattle.std.specs.Prelude.{codes}
use Rattle.std.specs.Str.{chars}
use Rattle.dp_base.specs.declared.place.Place.{Place}
use Rattle.dp_base.specs.Results.{◌>>=◌}
use Rattle.dp_model.specs.declared.parts.PlainState.{PlainState}
use Rattle.yaml_tree.specs.declared.tree.Tree.{Tree}
use Rattle.yaml_tree.specs.declared.tree.Tree.TheVariants as trees
use Rattle.dypdl_words.specs.Words.{begins_number, operator_named, is_cost, is_left_out}
use Rattle.dypdl_nodes.specs.Reads.{Reads}
use Rattle.dypdl_data.specs.Objects.{objects_of}
use Rattle.dypdl_data.specs.Variables.{variables_of}
use Rattle.dypdl_data.specs.Target.{target_of}
use Rattle.dypdl_data.specs.Tables.{head_of, heads_of, blank_table}
use Rattle.dypdl_data.specs.Cells.{values_of, tables_of}
use Rattle.dypdl_data.specs.declared.kinds.CellKind.TheVariants as kinds
use Rattle.dypdl_data.specs.declared.kinds.Cell.TheVariants.{Truth}
use Rattle.dypdl_data.specs.declared.kinds.TableHead.{TableHead}
use Rattle.dypdl_rules.specs.Declarations.{Declared}
use Rattle.dypdl_load.specs.Settings.{Settings, settings_of}
use Rattle.dypdl_load.specs.Meaning.{in_domain, in_problem, declared_of, Data, data_of}
use Rattle.content_laws.proofs.Working.{declared_made, ascii_text}
use Rattle.content_guards.specs.Depot.{depot_objects, depot_numbers, depot_variables, depot_tables, depot_values, depot_target, depot_domain_entries, depot_problem_entries, depot_domain, depot_problem, depot}

stop : chars (codes "stop") ≡ codes "stop"
stop = ascii_text (codes "stop") refl

left : chars (codes "left") ≡ codes "left"
left = ascii_text (codes "left") refl

here : chars (codes "here") ≡ codes "here"
here = ascii_text (codes "here") refl

time : chars (codes "time") ≡ codes "time"
time = ascii_text (codes "time") refl

open_name : chars (codes "open") ≡ codes "open"
open_name = ascii_text (codes "open") refl

abbrev depot_head : TableHead
depot_head = record { name = codes "open"; args = 0 ∷ []; kind = kinds.Truth; default = Truth true }

abbrev pub depot_names : Declared
depot_names = record { objects = depot.objects; variables = depot.variables; tables = depot.tables }

module _ (at : Place) where
  abbrev pub depot_settings : Settings
  depot_settings = record {
    domain = record { entries = depot_domain_entries at; needed = depot_variables at };
    problem = record { entries = depot_problem_entries at; needed = depot_target at };
    domain_title = codes "-";
    problem_title = codes "-";
    minimize = true;
  }

  pub settings : settings_of (depot_domain at) (depot_problem at) ≡ Ok depot_settings
  unfolding settings_of
  settings = simp (trees.outs-Scalar, trees.outs-Map) refl

  objects : objects_of at (Some (depot_objects at)) (Some (depot_numbers at)) ≡ Ok depot.objects
  unfolding begins_number operator_named is_cost is_left_out
  objects = simp (trees.outs-Scalar, trees.outs-List, trees.outs-Map, stop) refl

  variables : variables_of depot.objects (depot_variables at) ≡ Ok depot.variables
  unfolding begins_number operator_named is_cost is_left_out
  variables = simp (trees.outs-Scalar, trees.outs-List, trees.outs-Map, left, here, time) refl

  target : target_of depot.objects depot.variables (depot_target at) ≡ Ok depot.target
  target = simp (trees.outs-Scalar, trees.outs-List, trees.outs-Map) refl

  heads : heads_of depot.objects depot.variables (Some (depot_tables at)) ≡ Ok (depot_head ∷ [])
  unfolding head_of begins_number operator_named is_cost is_left_out
  heads = simp (trees.outs-Scalar, trees.outs-List, trees.outs-Map, open_name) refl

  values : values_of depot.objects (blank_table depot.objects depot_head ∷ []) (Some (depot_values at)) ≡ Ok depot.tables
  values = simp (trees.outs-Scalar, trees.outs-Map) refl

  tables : tables_of depot.objects depot.variables (Some (depot_tables at)) (Some (depot_values at)) ≡ Ok depot.tables
  tables = ap (λ (r : Reads (List TableHead)). r >>= λ heads. values_of depot.objects (map (blank_table depot.objects) heads) (Some (depot_values at))) heads ∙ values

  -- what two keys give, of which it is known what stands under them
  pub both_keys : {A : Type 0} (of : Option Tree → Option Tree → Reads A) (domain_key problem_key : List ℕ) (a b : Option Tree) → in_domain depot_settings domain_key ≡ a → in_problem depot_settings problem_key ≡ b
      → of (in_domain depot_settings domain_key) (in_problem depot_settings problem_key) ≡ of a b
  both_keys of domain_key problem_key a b is_a is_b = ap (λ (o : Option Tree). of o (in_problem depot_settings problem_key)) is_a ∙ ap (of a) is_b

  declared : declared_of at depot_settings ≡ Ok depot_names
  declared =
      declared_made at depot_settings depot_names
      (both_keys (objects_of at) (codes "objects") (codes "object_numbers") (Some (depot_objects at)) (Some (depot_numbers at)) (simp (trees.outs-Scalar) refl) (simp (trees.outs-Scalar) refl) ∙ objects)
      variables
      (both_keys (tables_of depot.objects depot.variables) (codes "tables") (codes "table_values") (Some (depot_tables at)) (Some (depot_values at)) (simp (trees.outs-Scalar) refl) (simp (trees.outs-Scalar) refl) ∙ tables)

  abbrev on_target : Declared → PlainState → Reads Data
  on_target d t = Ok (record { declared = d; target = t })

  abbrev on_declared : Declared → Reads Data
  on_declared d = target_of d.objects d.variables (depot_target at) >>= on_target d

  pub data_read : data_of at depot_settings ≡ Ok (record { declared = depot_names; target = depot.target })
  unfolding data_of
  data_read = ap (λ (r : Reads Declared). r >>= on_declared) declared ∙ ap (λ (r : Reads PlainState). r >>= on_target depot_names) target
