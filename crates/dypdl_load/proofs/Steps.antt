-- What each step gave, where two trees mean the parts of a model.
use Rattle.std.proofs.Common.{◌≡◌, ℕ, List, subst, Ok}
use Rattle.dp_base.specs.declared.place.Place.{Place}
use Rattle.dp_base.specs.Results.{◌>>=◌}
use Rattle.dp_model.specs.declared.parts.JoinOp.{JoinOp}
use Rattle.dp_model.specs.declared.parts.Ground.{Ground}
use Rattle.dp_model.specs.declared.parts.ObjectType.{ObjectType}
use Rattle.dp_model.specs.declared.parts.Variable.{Variable}
use Rattle.dp_model.specs.declared.parts.TableData.{TableData}
use Rattle.dp_model.specs.declared.parts.BaseCase.{BaseCase}
use Rattle.dp_model.specs.declared.parts.PlainState.{PlainState}
use Rattle.dp_model.specs.declared.trees.Cond.{Cond}
use Rattle.dp_model.specs.declared.trees.Num.{Num}
use Rattle.yaml_tree.specs.declared.tree.Tree.{Tree}
use Rattle.yaml_tree.specs.Fields.{tree_place}
use Rattle.std.specs.Prelude.{codes}
use Rattle.dypdl_nodes.specs.Reads.{Reads}
use Rattle.dypdl_data.specs.Objects.{objects_of}
use Rattle.dypdl_data.specs.Variables.{variables_of}
use Rattle.dypdl_data.specs.Cells.{tables_of}
use Rattle.dypdl_data.specs.Target.{target_of}
use Rattle.dypdl_rules.specs.Declarations.{Declared}
use Rattle.dypdl_rules.specs.Expressions.{Reading}
use Rattle.dypdl_rules.specs.Moves.{moves_of}
use Rattle.dypdl_rules.specs.BaseCases.{constraints_of, base_cases_of, bounds_of}
use Rattle.dypdl_rules.specs.declared.transitions.Move.{Move}
use Rattle.dypdl_load.proofs.Lists.{bound}
use Rattle.dypdl_load.specs.Settings.{Settings, settings_of}
use Rattle.dypdl_load.specs.Together.{join_of, grounds_of, texts_of}
use Rattle.dypdl_load.specs.Meaning.{in_domain, in_problem, declared_of, some_base, Data, data_of, StateRules, state_rules_of, Rules, rules_of, grounded_of, Parts, parts_with, meaning}

-- ---- what is declared

pub record DeclaredSteps (at : Place) (s : Settings) (d : Declared) : Type 0 where
  pub objects : objects_of at (in_domain s (codes "objects")) (in_problem s (codes "object_numbers")) ≡ Ok d.objects
  pub variables : variables_of d.objects s.domain.needed ≡ Ok d.variables
  pub tables : tables_of d.objects d.variables (in_domain s (codes "tables")) (in_problem s (codes "table_values")) ≡ Ok d.tables

module _ (at : Place) (s : Settings) where
  abbrev made : List ObjectType → List Variable → List TableData → Reads Declared
  made objects variables tables = Ok (record { objects = objects; variables = variables; tables = tables })

  abbrev on_variables : List ObjectType → List Variable → Reads Declared
  on_variables objects variables = tables_of objects variables (in_domain s (codes "tables")) (in_problem s (codes "table_values")) >>= made objects variables

  abbrev on_objects : List ObjectType → Reads Declared
  on_objects objects = variables_of objects s.domain.needed >>= on_variables objects

  pub declared_steps : (d : Declared) → declared_of at s ≡ Ok d → DeclaredSteps at s d
  unfolding declared_of
  declared_steps d h =
      let a = bound (objects_of at (in_domain s (codes "objects")) (in_problem s (codes "object_numbers"))) on_objects d h in
      let b = bound (variables_of a.0 s.domain.needed) (on_variables a.0) d a.2 in
      let c = bound (tables_of a.0 b.0 (in_domain s (codes "tables")) (in_problem s (codes "table_values"))) (made a.0 b.0) d b.2 in
      let it : Declared = record { objects = a.0; variables = b.0; tables = c.0 } in
      let same : it ≡ d = cc in
      subst (DeclaredSteps at s) same (record { objects = a.1; variables = b.1; tables = c.1 })

-- ---- rules

pub record RulesSteps (read : Reading) (at : Place) (s : Settings) (d : Declared) (r : Rules) : Type 0 where
  pub moves : moves_of read d (in_domain s (codes "transitions")) (in_problem s (codes "transitions")) ≡ Ok r.moves
  pub constraints : constraints_of read d (in_domain s (codes "constraints")) (in_problem s (codes "constraints")) ≡ Ok r.constraints
  pub base_cases : base_cases_of read d (in_domain s (codes "base_cases")) (in_problem s (codes "base_cases")) ≡ Ok r.base_cases
  pub bounds : bounds_of read d (in_domain s (codes "dual_bounds")) (in_problem s (codes "dual_bounds")) ≡ Ok r.bounds

module _ (read : Reading) (at : Place) (s : Settings) (d : Declared) where
  abbrev all_state_rules : List Cond → List BaseCase → List Num → List BaseCase → Reads StateRules
  all_state_rules constraints base_cases bounds some = Ok (record { constraints = constraints; base_cases = base_cases; bounds = bounds })

  abbrev on_bounds : List Cond → List BaseCase → List Num → Reads StateRules
  on_bounds constraints base_cases bounds = some_base at base_cases >>= all_state_rules constraints base_cases bounds

  abbrev on_base_cases : List Cond → List BaseCase → Reads StateRules
  on_base_cases constraints base_cases = bounds_of read d (in_domain s (codes "dual_bounds")) (in_problem s (codes "dual_bounds")) >>= on_bounds constraints base_cases

  abbrev on_constraints : List Cond → Reads StateRules
  on_constraints constraints = base_cases_of read d (in_domain s (codes "base_cases")) (in_problem s (codes "base_cases")) >>= on_base_cases constraints

  state_steps : (x : StateRules) → state_rules_of read at s d ≡ Ok x
      → (constraints_of read d (in_domain s (codes "constraints")) (in_problem s (codes "constraints")) ≡ Ok x.constraints)
      × (base_cases_of read d (in_domain s (codes "base_cases")) (in_problem s (codes "base_cases")) ≡ Ok x.base_cases)
      × (bounds_of read d (in_domain s (codes "dual_bounds")) (in_problem s (codes "dual_bounds")) ≡ Ok x.bounds)
  unfolding state_rules_of
  state_steps x h =
      let c = bound (constraints_of read d (in_domain s (codes "constraints")) (in_problem s (codes "constraints"))) on_constraints x h in
      let e = bound (base_cases_of read d (in_domain s (codes "base_cases")) (in_problem s (codes "base_cases"))) (on_base_cases c.0) x c.2 in
      let f = bound (bounds_of read d (in_domain s (codes "dual_bounds")) (in_problem s (codes "dual_bounds"))) (on_bounds c.0 e.0) x e.2 in
      let g = bound (some_base at e.0) (all_state_rules c.0 e.0 f.0) x f.2 in
      let it : StateRules = record { constraints = c.0; base_cases = e.0; bounds = f.0 } in
      let same : it ≡ x = cc in
      subst (λ (y : StateRules). (constraints_of read d (in_domain s (codes "constraints")) (in_problem s (codes "constraints")) ≡ Ok y.constraints)
      × (base_cases_of read d (in_domain s (codes "base_cases")) (in_problem s (codes "base_cases")) ≡ Ok y.base_cases)
      × (bounds_of read d (in_domain s (codes "dual_bounds")) (in_problem s (codes "dual_bounds")) ≡ Ok y.bounds)) {x = it} same (c.1, e.1, f.1)

  abbrev all_rules : List Move → JoinOp → StateRules → Reads Rules
  all_rules moves join c = Ok (record { moves = moves; join = join; constraints = c.constraints; base_cases = c.base_cases; bounds = c.bounds })

  abbrev on_join : List Move → JoinOp → Reads Rules
  on_join moves join = state_rules_of read at s d >>= all_rules moves join

  abbrev on_moves : List Move → Reads Rules
  on_moves moves = join_of moves >>= on_join moves

  pub rules_steps : (r : Rules) → rules_of read at s d ≡ Ok r → RulesSteps read at s d r
  unfolding rules_of
  rules_steps r h =
      let a = bound (moves_of read d (in_domain s (codes "transitions")) (in_problem s (codes "transitions"))) on_moves r h in
      let b = bound (join_of a.0) (on_join a.0) r a.2 in
      let c = bound (state_rules_of read at s d) (all_rules a.0 b.0) r b.2 in
      let x = state_steps c.0 c.1 in
      let it : Rules = record { moves = a.0; join = b.0; constraints = c.0.constraints; base_cases = c.0.base_cases; bounds = c.0.bounds } in
      let same : it ≡ r = cc in
      subst (RulesSteps read at s d) {x = it} same (record { moves = a.1; constraints = x.0; base_cases = x.1; bounds = x.2 })

-- ---- ground transitions

pub record GroundSteps (d : Declared) (moves : List Move) (grounds : List Ground) : Type 0 where
  pub texts : List (List ℕ)
  pub all : grounds_of d.objects d.variables moves ≡ Ok grounds
  pub apart : texts_of moves grounds ≡ Ok texts

module _ (d : Declared) (moves : List Move) where
  abbrev on_texts : List Ground → List (List ℕ) → Reads (List Ground)
  on_texts grounds texts = Ok grounds

  abbrev on_grounds : List Ground → Reads (List Ground)
  on_grounds grounds = texts_of moves grounds >>= on_texts grounds

  pub ground_steps : (grounds : List Ground) → grounded_of d moves ≡ Ok grounds → GroundSteps d moves grounds
  ground_steps grounds h =
      let a = bound (grounds_of d.objects d.variables moves) on_grounds grounds h in
      let b = bound (texts_of moves a.0) (on_texts a.0) grounds a.2 in
      let same : a.0 ≡ grounds = cc in
      subst (GroundSteps d moves) same (record { texts = b.0; all = a.1; apart = b.1 })

-- ---- all steps

pub record MeaningSteps (read : Reading) (domain problem : Tree) (x : Parts) : Type 0 where
  pub settings : Settings
  pub declared : Declared
  pub target : PlainState
  pub rules : Rules
  pub grounds : List Ground
  pub is_declared : declared_of (tree_place problem) settings ≡ Ok declared
  pub is_target : target_of declared.objects declared.variables settings.problem.needed ≡ Ok target
  pub is_rules : rules_of read (tree_place domain) settings declared ≡ Ok rules
  pub is_grounded : grounded_of declared rules.moves ≡ Ok grounds
  pub whole : parts_with settings declared target rules grounds ≡ x

module _ (at : Place) (s : Settings) where
  abbrev all_data : Declared → PlainState → Reads Data
  all_data d target = Ok (record { declared = d; target = target })

  abbrev on_lists : Declared → Reads Data
  on_lists d = target_of d.objects d.variables s.problem.needed >>= all_data d

  data_steps : (x : Data) → data_of at s ≡ Ok x → (declared_of at s ≡ Ok x.declared) × (target_of x.declared.objects x.declared.variables s.problem.needed ≡ Ok x.target)
  unfolding data_of
  data_steps x h =
      let a = bound (declared_of at s) on_lists x h in
      let b = bound (target_of a.0.objects a.0.variables s.problem.needed) (all_data a.0) x a.2 in
      let it : Data = record { declared = a.0; target = b.0 } in
      let same : it ≡ x = cc in
      subst (λ (y : Data). (declared_of at s ≡ Ok y.declared) × (target_of y.declared.objects y.declared.variables s.problem.needed ≡ Ok y.target)) {x = it} same (a.1, b.1)

module _ (read : Reading) (domain problem : Tree) where
  abbrev all_parts : Settings → Data → Rules → List Ground → Reads Parts
  all_parts s x r grounds = Ok (parts_with s x.declared x.target r grounds)

  abbrev on_rules : Settings → Data → Rules → Reads Parts
  on_rules s x r = grounded_of x.declared r.moves >>= all_parts s x r

  abbrev on_data : Settings → Data → Reads Parts
  on_data s x = rules_of read (tree_place domain) s x.declared >>= on_rules s x

  abbrev on_settings : Settings → Reads Parts
  on_settings s = data_of (tree_place problem) s >>= on_data s

  pub meaning_steps : (x : Parts) → meaning read domain problem ≡ Ok x → MeaningSteps read domain problem x
  unfolding meaning
  meaning_steps x h =
      let a = bound (settings_of domain problem) on_settings x h in
      let b = bound (data_of (tree_place problem) a.0) (on_data a.0) x a.2 in
      let e = bound (rules_of read (tree_place domain) a.0 b.0.declared) (on_rules a.0 b.0) x b.2 in
      let f = bound (grounded_of b.0.declared e.0.moves) (all_parts a.0 b.0 e.0) x e.2 in
      let d = data_steps (tree_place problem) a.0 b.0 b.1 in
      let same : parts_with a.0 b.0.declared b.0.target e.0 f.0 ≡ x = cc in
      record {
        settings = a.0;
        declared = b.0.declared;
        target = b.0.target;
        rules = e.0;
        grounds = f.0;
        is_declared = d.0;
        is_target = d.1;
        is_rules = e.1;
        is_grounded = f.1;
        whole = same;
      }
