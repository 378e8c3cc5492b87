-- Texts written out, read step by step.
use Rattle.std.proofs.Common.{◌≡◌, ℕ, true, false, nat_lt, List, [], ◌∷◌, map, Option, Some, None, Ok, refl, ap, ◌∙◌}
use Rattle.std.specs.Prelude.{codes, pos}
use Rattle.std.specs.List.{list_all}
use Rattle.std.specs.Str.{chars, IsAscii}
use Rattle.std.proofs.lemmas.Bool.{and_parts}
use Rattle.std.proofs.lemmas.Bool.Decides.{Decides-ltb}
use Rattle.std.proofs.lemmas.Str.Ascii.{IsAscii-nil, IsAscii-cons}
use Rattle.std.proofs.lemmas.Str.{chars-IsAscii}
use Rattle.dp_base.specs.declared.place.Place.{Place}
use Rattle.dp_base.specs.Results.{◌>>=◌}
use Rattle.dp_model.specs.declared.parts.JoinOp.{JoinOp}
use Rattle.dp_model.specs.declared.parts.JoinOp.TheVariants.{Plus}
use Rattle.dp_model.specs.declared.trees.Cond.{Cond}
use Rattle.dp_model.specs.declared.trees.Num.{Num}
use Rattle.dp_model.specs.declared.trees.Num.TheVariants as nums
use Rattle.dp_model.specs.declared.parts.ObjectType.{ObjectType}
use Rattle.dp_model.specs.declared.parts.Variable.{Variable}
use Rattle.dp_model.specs.declared.parts.TableData.{TableData}
use Rattle.dp_model.specs.declared.parts.BaseCase.{BaseCase}
use Rattle.dp_model.specs.declared.parts.PlainState.{PlainState}
use Rattle.yaml_tree.specs.declared.tree.Tree.{Tree}
use Rattle.yaml_tree.specs.declared.tree.Tree.TheVariants as trees
use Rattle.yaml_tree.specs.Fields.{form_place, tree_place}
use Rattle.dypdl_words.specs.Words.{begins_number, operator_named, is_cost, is_left_out}
use Rattle.dypdl_nodes.specs.Reads.{Reads}
use Rattle.dypdl_data.specs.Objects.{objects_of}
use Rattle.dypdl_data.specs.Variables.{variables_of}
use Rattle.dypdl_data.specs.Target.{target_of}
use Rattle.dypdl_data.specs.Tables.{head_of, heads_of, blank_table}
use Rattle.dypdl_data.specs.Cells.{values_of, tables_of}
use Rattle.dypdl_data.specs.declared.kinds.CellKind.TheVariants as kinds
use Rattle.dypdl_data.specs.declared.kinds.Cell.TheVariants.{Number}
use Rattle.dypdl_data.specs.declared.kinds.TableHead.{TableHead}
use Rattle.dypdl_rules.specs.Declarations.{Declared}
use Rattle.dypdl_rules.specs.Expressions.{Reading}
use Rattle.dypdl_rules.specs.BaseCases.{constraints_of, base_cases_of, bounds_of}
use Rattle.dypdl_rules.specs.Moves.{moves_of}
use Rattle.dypdl_rules.specs.declared.transitions.Move.{Move}
use Rattle.dypdl_load.specs.Together.{join_of}
use Rattle.dypdl_load.specs.Settings.{Settings, settings_of}
use Rattle.dypdl_load.specs.Meaning.{in_domain, in_problem, declared_of, Data, data_of, some_base, StateRules, state_rules_of, Rules, rules_of, grounded_of, parts_with, meaning}
use Rattle.content_laws.specs.Worked.{quarry_objects, quarry_variables, quarry_tables, quarry_base_cases, quarry_domain_entries, quarry_problem_entries, quarry_numbers, quarry_values, quarry_target, quarry_domain, quarry_problem, quarry}

-- ---- a meaning from its steps

module _ (at : Place) (s : Settings) where
  abbrev declared_with : List ObjectType → List Variable → List TableData → Reads Declared
  declared_with objects variables tables = Ok (record { objects = objects; variables = variables; tables = tables })

  abbrev on_variables : List ObjectType → List Variable → Reads Declared
  on_variables objects variables = tables_of objects variables (in_domain s (codes "tables")) (in_problem s (codes "table_values")) >>= declared_with objects variables

  abbrev on_objects : List ObjectType → Reads Declared
  on_objects objects = variables_of objects s.domain.needed >>= on_variables objects

  pub declared_made : (d : Declared) → objects_of at (in_domain s (codes "objects")) (in_problem s (codes "object_numbers")) ≡ Ok d.objects → variables_of d.objects s.domain.needed ≡ Ok d.variables
      → tables_of d.objects d.variables (in_domain s (codes "tables")) (in_problem s (codes "table_values")) ≡ Ok d.tables → declared_of at s ≡ Ok d
  unfolding declared_of
  declared_made d objects variables tables =
      ap (λ (r : Reads (List ObjectType)). r >>= on_objects) objects ∙ ap (λ (r : Reads (List Variable)). r >>= on_variables d.objects) variables
      ∙ ap (λ (r : Reads (List TableData)). r >>= declared_with d.objects d.variables) tables

module _ (read : Reading) (at : Place) (s : Settings) (d : Declared) where
  abbrev state_rules_with : List Cond → List BaseCase → List Num → List BaseCase → Reads StateRules
  state_rules_with constraints base_cases bounds some = Ok (record { constraints = constraints; base_cases = base_cases; bounds = bounds })

  abbrev on_bounds : List Cond → List BaseCase → List Num → Reads StateRules
  on_bounds constraints base_cases bounds = some_base at base_cases >>= state_rules_with constraints base_cases bounds

  abbrev on_base_cases : List Cond → List BaseCase → Reads StateRules
  on_base_cases constraints base_cases = bounds_of read d (in_domain s (codes "dual_bounds")) (in_problem s (codes "dual_bounds")) >>= on_bounds constraints base_cases

  abbrev on_constraints : List Cond → Reads StateRules
  on_constraints constraints = base_cases_of read d (in_domain s (codes "base_cases")) (in_problem s (codes "base_cases")) >>= on_base_cases constraints

  abbrev rules_with : List Move → JoinOp → StateRules → Reads Rules
  rules_with moves join x = Ok (record { moves = moves; join = join; constraints = x.constraints; base_cases = x.base_cases; bounds = x.bounds })

  abbrev on_join : List Move → JoinOp → Reads Rules
  on_join moves join = state_rules_of read at s d >>= rules_with moves join

  abbrev on_moves : List Move → Reads Rules
  on_moves moves = join_of moves >>= on_join moves

  state_rules_made : (constraints : List Cond) (b : BaseCase) (bs : List BaseCase) (bounds : List Num)
      → constraints_of read d (in_domain s (codes "constraints")) (in_problem s (codes "constraints")) ≡ Ok constraints
      → base_cases_of read d (in_domain s (codes "base_cases")) (in_problem s (codes "base_cases")) ≡ Ok (b ∷ bs)
      → bounds_of read d (in_domain s (codes "dual_bounds")) (in_problem s (codes "dual_bounds")) ≡ Ok bounds
      → state_rules_of read at s d ≡ Ok (record { constraints = constraints; base_cases = b ∷ bs; bounds = bounds })
  unfolding state_rules_of
  state_rules_made constraints b bs bounds are cases told =
      ap (λ (x : Reads (List Cond)). x >>= on_constraints) are
      ∙ ap (λ (x : Reads (List BaseCase)). x >>= on_base_cases constraints) cases
      ∙ ap (λ (x : Reads (List Num)). x >>= on_bounds constraints (b ∷ bs)) told

  pub rules_made : (r : Rules) (b : BaseCase) (bs : List BaseCase) → moves_of read d (in_domain s (codes "transitions")) (in_problem s (codes "transitions")) ≡ Ok r.moves → join_of r.moves ≡ Ok r.join
      → constraints_of read d (in_domain s (codes "constraints")) (in_problem s (codes "constraints")) ≡ Ok r.constraints
      → base_cases_of read d (in_domain s (codes "base_cases")) (in_problem s (codes "base_cases")) ≡ Ok (b ∷ bs)
      → bounds_of read d (in_domain s (codes "dual_bounds")) (in_problem s (codes "dual_bounds")) ≡ Ok r.bounds
      → rules_of read at s d ≡ Ok (record { moves = r.moves; join = r.join; constraints = r.constraints; base_cases = b ∷ bs; bounds = r.bounds })
  unfolding rules_of
  rules_made r b bs moves join constraints base_cases bounds =
      ap (λ (x : Reads (List Move)). x >>= on_moves) moves ∙ ap (λ (x : Reads JoinOp). x >>= on_join r.moves) join
      ∙ ap (λ (x : Reads StateRules). x >>= rules_with r.moves r.join) (state_rules_made r.constraints b bs r.bounds constraints base_cases bounds)

-- ---- names of letters

ascii : (bytes : List ℕ) → list_all (λ b. nat_lt b 128) bytes ≡ true → IsAscii bytes
ascii [] e = IsAscii-nil
ascii (b ∷ bytes) e =
    let parts = and_parts (nat_lt b 128) (list_all (λ b. nat_lt b 128) bytes) e in
    IsAscii-cons b bytes ((Decides-ltb b 128).0 parts.0) (ascii bytes parts.1)

pub ascii_text : (bytes : List ℕ) → list_all (λ b. nat_lt b 128) bytes ≡ true → chars bytes ≡ bytes
ascii_text bytes e = chars-IsAscii bytes (ascii bytes e)

stone : chars (codes "stone") ≡ codes "stone"
stone = ascii_text (codes "stone") refl

pub x : chars (codes "x") ≡ codes "x"
x = ascii_text (codes "x") refl

weight : chars (codes "weight") ≡ codes "weight"
weight = ascii_text (codes "weight") refl

-- ---- the quarry

abbrev quarry_case : BaseCase
quarry_case = record { conditions = []; cost = nums.Fixed (pos 0) }

abbrev quarry_head : TableHead
quarry_head = record { name = codes "weight"; args = 0 ∷ []; kind = kinds.Integer; default = Number (pos 7) }

module _ (at : Place) where
  abbrev quarry_settings : Settings
  quarry_settings = record {
    domain = record { entries = quarry_domain_entries at; needed = quarry_variables at };
    problem = record { entries = quarry_problem_entries at; needed = quarry_target at };
    domain_title = codes "-";
    problem_title = codes "-";
    minimize = false;
  }

  settings : settings_of (quarry_domain at) (quarry_problem at) ≡ Ok quarry_settings
  unfolding settings_of
  settings = simp (trees.outs-Scalar, trees.outs-Map) refl

  objects : objects_of at (Some (quarry_objects at)) (Some (quarry_numbers at)) ≡ Ok quarry.objects
  unfolding begins_number operator_named is_cost is_left_out
  objects = simp (trees.outs-Scalar, trees.outs-List, trees.outs-Map, stone) refl

  variables : variables_of quarry.objects (quarry_variables at) ≡ Ok quarry.variables
  unfolding begins_number operator_named is_cost is_left_out
  variables = simp (trees.outs-Scalar, trees.outs-List, trees.outs-Map, x) refl

  pub target : target_of quarry.objects quarry.variables (quarry_target at) ≡ Ok quarry.target
  target = simp (trees.outs-Scalar, trees.outs-Map) refl

  heads : heads_of quarry.objects quarry.variables (Some (quarry_tables at)) ≡ Ok (quarry_head ∷ [])
  unfolding head_of begins_number operator_named is_cost is_left_out
  heads = simp (trees.outs-Scalar, trees.outs-List, trees.outs-Map, weight) refl

  values : values_of quarry.objects (blank_table quarry.objects quarry_head ∷ []) (Some (quarry_values at)) ≡ Ok quarry.tables
  values = simp (trees.outs-Scalar, trees.outs-Map) refl

  base_cases : (read : Reading) (d : Declared) → base_cases_of read d (Some (quarry_base_cases at)) None ≡ Ok quarry.base_cases
  base_cases read d = simp (trees.outs-List) refl

  tables : tables_of quarry.objects quarry.variables (Some (quarry_tables at)) (Some (quarry_values at)) ≡ Ok quarry.tables
  tables = ap (λ (r : Reads (List TableHead)). r >>= λ heads. values_of quarry.objects (map (blank_table quarry.objects) heads) (Some (quarry_values at))) heads ∙ values

  abbrev quarry_names : Declared
  quarry_names = record { objects = quarry.objects; variables = quarry.variables; tables = quarry.tables }

  declared : declared_of at quarry_settings ≡ Ok quarry_names
  declared =
      declared_made at quarry_settings quarry_names
      (ap (λ (o : Option Tree). objects_of at o (in_problem quarry_settings (codes "object_numbers"))) at_objects ∙ ap (objects_of at (Some (quarry_objects at))) at_numbers ∙ objects)
      variables
      (ap (λ (o : Option Tree). tables_of quarry.objects quarry.variables o (in_problem quarry_settings (codes "table_values"))) at_tables ∙ ap (tables_of quarry.objects quarry.variables (Some (quarry_tables at))) at_values ∙ tables)
    where
      at_objects : in_domain quarry_settings (codes "objects") ≡ Some (quarry_objects at)
      at_objects = simp (trees.outs-Scalar) refl

      at_numbers : in_problem quarry_settings (codes "object_numbers") ≡ Some (quarry_numbers at)
      at_numbers = simp (trees.outs-Scalar) refl

      at_tables : in_domain quarry_settings (codes "tables") ≡ Some (quarry_tables at)
      at_tables = simp (trees.outs-Scalar) refl

      at_values : in_problem quarry_settings (codes "table_values") ≡ Some (quarry_values at)
      at_values = simp (trees.outs-Scalar) refl

  abbrev on_target : Declared → PlainState → Reads Data
  on_target d target = Ok (record { declared = d; target = target })

  abbrev on_declared : Declared → Reads Data
  on_declared d = target_of d.objects d.variables (quarry_target at) >>= on_target d

  data_read : data_of at quarry_settings ≡ Ok (record { declared = quarry_names; target = quarry.target })
  unfolding data_of
  data_read =
      ap (λ (r : Reads Declared). r >>= on_declared) declared ∙ ap (λ (r : Reads PlainState). r >>= on_target quarry_names) target

  abbrev quarry_rules : Rules
  quarry_rules = record { moves = []; join = Plus; constraints = []; base_cases = quarry.base_cases; bounds = [] }

  rules : (read : Reading) → rules_of read at quarry_settings quarry_names ≡ Ok quarry_rules
  rules read =
      rules_made read at quarry_settings quarry_names quarry_rules quarry_case []
      (both_keys (moves_of read quarry_names) (codes "transitions") None None no_moves none_moves)
      refl
      (both_keys (constraints_of read quarry_names) (codes "constraints") None None no_constraints none_constraints)
      (both_keys (base_cases_of read quarry_names) (codes "base_cases") (Some (quarry_base_cases at)) None at_cases none_cases ∙ base_cases read quarry_names)
      (both_keys (bounds_of read quarry_names) (codes "dual_bounds") None None no_bounds none_bounds)
    where
      both_keys : {A : Type 0} (of : Option Tree → Option Tree → Reads A) (name : List ℕ) (a b : Option Tree) → in_domain quarry_settings name ≡ a → in_problem quarry_settings name ≡ b
          → of (in_domain quarry_settings name) (in_problem quarry_settings name) ≡ of a b
      both_keys of name a b is_a is_b = ap (λ (o : Option Tree). of o (in_problem quarry_settings name)) is_a ∙ ap (of a) is_b

      no_moves : in_domain quarry_settings (codes "transitions") ≡ None
      no_moves = simp (trees.outs-Scalar) refl

      none_moves : in_problem quarry_settings (codes "transitions") ≡ None
      none_moves = simp (trees.outs-Scalar) refl

      no_constraints : in_domain quarry_settings (codes "constraints") ≡ None
      no_constraints = simp (trees.outs-Scalar) refl

      none_constraints : in_problem quarry_settings (codes "constraints") ≡ None
      none_constraints = simp (trees.outs-Scalar) refl

      at_cases : in_domain quarry_settings (codes "base_cases") ≡ Some (quarry_base_cases at)
      at_cases = simp (trees.outs-Scalar) refl

      none_cases : in_problem quarry_settings (codes "base_cases") ≡ None
      none_cases = simp (trees.outs-Scalar) refl

      no_bounds : in_domain quarry_settings (codes "dual_bounds") ≡ None
      no_bounds = simp (trees.outs-Scalar) refl

      none_bounds : in_problem quarry_settings (codes "dual_bounds") ≡ None
      none_bounds = simp (trees.outs-Scalar) refl

  pub quarry_law : (read : Reading) → meaning read (quarry_domain at) (quarry_problem at) ≡ Ok quarry
  unfolding meaning
  quarry_law read =
      ap (λ (r : Reads Settings). r >>= λ s. data_of (tree_place (quarry_problem at)) s >>= λ x. rules_of read (tree_place (quarry_domain at)) s x.declared >>= λ r. grounded_of x.declared r.moves >>= λ grounds. Ok (parts_with s x.declared x.target r grounds)) settings
      ∙ ap (λ (p : Place). data_of p quarry_settings >>= λ x. rules_of read (tree_place (quarry_domain at)) quarry_settings x.declared >>= λ r. grounded_of x.declared r.moves >>= λ grounds. Ok (parts_with quarry_settings x.declared x.target r grounds)) place_p
      ∙ ap (λ (r : Reads Data). r >>= λ x. rules_of read (tree_place (quarry_domain at)) quarry_settings x.declared >>= λ r. grounded_of x.declared r.moves >>= λ grounds. Ok (parts_with quarry_settings x.declared x.target r grounds)) data_read
      ∙ ap (λ (p : Place). rules_of read p quarry_settings quarry_names >>= λ r. grounded_of quarry_names r.moves >>= λ grounds. Ok (parts_with quarry_settings quarry_names quarry.target r grounds)) place_d
      ∙ ap (λ (r : Reads Rules). r >>= λ r. grounded_of quarry_names r.moves >>= λ grounds. Ok (parts_with quarry_settings quarry_names quarry.target r grounds)) (rules read)
    where
      place_p : tree_place (quarry_problem at) ≡ at
      place_p = ap form_place (trees.outs-Map at (quarry_problem_entries at))

      place_d : tree_place (quarry_domain at) ≡ at
      place_d = ap form_place (trees.outs-Map at (quarry_domain_entries at))
