-- The steps of a meaning, each with the value that it gave.
use Rattle.std.proofs.Common.{◌≡◌, ℕ, Bool, true, List, Option, Some, None, Ok, subst, refl, sym, ap}
use Rattle.std.specs.Prelude.{codes, unwrap_or}
use Rattle.std.specs.Option.{option_or}
use Rattle.dp_base.specs.declared.place.Place.{Place}
use Rattle.dp_base.specs.Results.{◌>>=◌, each}
use Rattle.dp_model.specs.declared.parts.Ground.{Ground}
use Rattle.dp_model.specs.declared.parts.PlainState.{PlainState}
use Rattle.yaml_tree.specs.declared.tree.Tree.{Tree}
use Rattle.yaml_tree.specs.declared.tree.Tree as trees
use Rattle.yaml_tree.specs.declared.tree.Pair.{Pair}
use Rattle.yaml_tree.specs.Fields.{tree_place, form_entries, map_entries, value_in}
use Rattle.dypdl_nodes.specs.Reads.{Reads, or_refuse}
use Rattle.dypdl_nodes.specs.Shapes.{file_form, known_keys, key_step, file_keyed, needed}
use Rattle.dypdl_data.specs.Target.{target_of}
use Rattle.dypdl_rules.specs.Declarations.{Declared}
use Rattle.dypdl_rules.specs.Expressions.{Reading}
use Rattle.dypdl_load.specs.Settings.{File, domain_keys, problem_keys, title_of, domain_file, problem_file, cost_type_of, reduce_of, Settings, settings_of}
use Rattle.dypdl_load.specs.Meaning.{declared_of, Data, data_of, Rules, rules_of, grounded_of, Parts, parts_with, meaning}
use Rattle.dypdl_load.proofs.Lists.{bound}
use Rattle.dypdl_load.proofs.Steps.{DeclaredSteps, declared_steps, RulesSteps, rules_steps}
use Rattle.content_laws.proofs.Outcomes.{ok_same}

-- ---- settings

keys_known : (known : List (List ℕ)) (form : trees.Tree-F Tree Pair) (entries : List Pair) → (file_form form >>= known_keys known) ≡ Ok entries → entries ≡ form_entries form
keys_known known (trees.Tree-F.Scalar at text) entries e = absurd (cc e)
keys_known known (trees.Tree-F.List at items) entries e = absurd (cc e)
keys_known known (trees.Tree-F.Map at es) entries e =
    let a = bound (each (key_step known) tt es) (λ done. Ok es) entries e in
    sym (ok_same es entries a.2)

some_needed : (at : Place) (o : Option Tree) (x : Tree) → or_refuse 40 at o ≡ Ok x → o ≡ Some x
some_needed at None x e = absurd (cc e)
some_needed at (Some y) x e = ap Some (ok_same y x e)

-- a file's entries are those of its map, and the value that it needs is the one of this key
record FileIs (tree : Tree) (key : List ℕ) (f : File) : Type 0 where
  entries : f.entries ≡ map_entries tree
  needed_at : value_in key f.entries ≡ Some f.needed

abbrev file_with : (keys : List (List ℕ)) (key : List ℕ) → Tree → Reads File
file_with keys key tree = file_keyed keys tree >>= λ entries. needed (tree_place tree) entries key >>= λ value. Ok (record { entries = entries; needed = value })

file_is : (keys : List (List ℕ)) (key : List ℕ) (tree : Tree) (f : File) → file_with keys key tree ≡ Ok f → FileIs tree key f
file_is keys key tree f e =
    let entries = bound (file_keyed keys tree) (λ entries. needed (tree_place tree) entries key >>= λ value. Ok (record { entries = entries; needed = value })) f e in
    let value = bound (needed (tree_place tree) entries.0 key) (λ value. Ok (record { entries = entries.0; needed = value })) f entries.2 in
    let it : File = record { entries = entries.0; needed = value.0 } in
    subst (FileIs tree key) {x = it} (ok_same it f value.2)
    (record { entries = keys_known keys (trees.out-Tree tree) entries.0 entries.1; needed_at = some_needed (tree_place tree) (value_in key entries.0) value.0 value.1 })

-- what is known of the settings of two files
pub record SettingsSteps (domain problem : Tree) (s : Settings) : Type 0 where
  pub first : Option Bool
  pub second : Option Bool
  pub domain_entries : s.domain.entries ≡ map_entries domain
  pub problem_entries : s.problem.entries ≡ map_entries problem
  pub variables : value_in (codes "state_variables") s.domain.entries ≡ Some s.domain.needed
  pub target : value_in (codes "target") s.problem.entries ≡ Some s.problem.needed
  pub in_domain_file : reduce_of (value_in (codes "reduce") s.domain.entries) ≡ Ok first
  pub in_problem_file : reduce_of (value_in (codes "reduce") s.problem.entries) ≡ Ok second
  pub minimize : s.minimize ≡ unwrap_or (option_or second first) true

module _ (domain problem : Tree) where
  abbrev whole : File → List ℕ → File → List ℕ → Option Bool → Option Bool → Reads Settings
  whole d domain_title p problem_title first second =
      Ok (record { domain = d; problem = p; domain_title = domain_title; problem_title = problem_title; minimize = unwrap_or (option_or second first) true })

  abbrev on_first : File → List ℕ → File → List ℕ → Option Bool → Reads Settings
  on_first d domain_title p problem_title first = reduce_of (value_in (codes "reduce") p.entries) >>= whole d domain_title p problem_title first

  abbrev on_cost : File → List ℕ → File → List ℕ → Unit {0} → Reads Settings
  on_cost d domain_title p problem_title done = reduce_of (value_in (codes "reduce") d.entries) >>= on_first d domain_title p problem_title

  abbrev on_titles : File → List ℕ → File → List ℕ → Reads Settings
  on_titles d domain_title p problem_title = cost_type_of (value_in (codes "cost_type") d.entries) >>= on_cost d domain_title p problem_title

  abbrev on_name : File → List ℕ → File → List ℕ → Reads Settings
  on_name d domain_title p named = title_of (value_in (codes "problem") p.entries) >>= on_titles d domain_title p

  abbrev on_problem : File → List ℕ → File → Reads Settings
  on_problem d domain_title p = title_of (value_in (codes "domain") p.entries) >>= on_name d domain_title p

  abbrev on_title : File → List ℕ → Reads Settings
  on_title d domain_title = problem_file problem >>= on_problem d domain_title

  abbrev on_domain : File → Reads Settings
  on_domain d = title_of (value_in (codes "domain") d.entries) >>= on_title d

  pub settings_steps : (s : Settings) → settings_of domain problem ≡ Ok s → SettingsSteps domain problem s
  unfolding settings_of
  settings_steps s h =
      let d = bound (domain_file domain) on_domain s h in
      let t = bound (title_of (value_in (codes "domain") d.0.entries)) (on_title d.0) s d.2 in
      let p = bound (problem_file problem) (on_problem d.0 t.0) s t.2 in
      let n = bound (title_of (value_in (codes "domain") p.0.entries)) (on_name d.0 t.0 p.0) s p.2 in
      let u = bound (title_of (value_in (codes "problem") p.0.entries)) (on_titles d.0 t.0 p.0) s n.2 in
      let c = bound (cost_type_of (value_in (codes "cost_type") d.0.entries)) (on_cost d.0 t.0 p.0 u.0) s u.2 in
      let first = bound (reduce_of (value_in (codes "reduce") d.0.entries)) (on_first d.0 t.0 p.0 u.0) s c.2 in
      let second = bound (reduce_of (value_in (codes "reduce") p.0.entries)) (whole d.0 t.0 p.0 u.0 first.0) s first.2 in
      let in_d = file_is domain_keys (codes "state_variables") domain d.0 d.1 in
      let in_p = file_is problem_keys (codes "target") problem p.0 p.1 in
      let it : Settings = record { domain = d.0; problem = p.0; domain_title = t.0; problem_title = u.0; minimize = unwrap_or (option_or second.0 first.0) true } in
      made d.0 t.0 p.0 u.0 first.0 second.0 (ok_same it s second.2) in_d in_p first.1 second.1
    where
      made : (d : File) (t : List ℕ) (p : File) (u : List ℕ) (first second : Option Bool)
          → ◌≡◌ {A = Settings} (record { domain = d; problem = p; domain_title = t; problem_title = u; minimize = unwrap_or (option_or second first) true }) s
          → FileIs domain (codes "state_variables") d → FileIs problem (codes "target") p → reduce_of (value_in (codes "reduce") d.entries) ≡ Ok first → reduce_of (value_in (codes "reduce") p.entries) ≡ Ok second
          → SettingsSteps domain problem s
      made d t p u first second is in_d in_p in_first in_second =
          (let it : Settings = record { domain = d; problem = p; domain_title = t; problem_title = u; minimize = unwrap_or (option_or second first) true } in
          subst (SettingsSteps domain problem) {x = it} is
          (record {
            first = first;
            second = second;
            domain_entries = in_d.entries;
            problem_entries = in_p.entries;
            variables = in_d.needed_at;
            target = in_p.needed_at;
            in_domain_file = in_first;
            in_problem_file = in_second;
            minimize = refl;
          }))

-- ---- all steps

pub record MeaningSteps (read : Reading) (domain problem : Tree) (x : Parts) : Type 0 where
  pub settings : Settings
  pub declared : Declared
  pub target : PlainState
  pub rules : Rules
  pub grounds : List Ground
  pub is_settings : SettingsSteps domain problem settings
  pub is_declared : DeclaredSteps (tree_place problem) settings declared
  pub is_target : target_of declared.objects declared.variables settings.problem.needed ≡ Ok target
  pub is_rules : RulesSteps read (tree_place domain) settings declared rules
  pub whole : parts_with settings declared target rules grounds ≡ x

module _ (at : Place) (s : Settings) where
  abbrev all_data : Declared → PlainState → Reads Data
  all_data d target = Ok (record { declared = d; target = target })

  abbrev on_lists : Declared → Reads Data
  on_lists d = target_of d.objects d.variables s.problem.needed >>= all_data d

  data_steps : (x : Data) → data_of at s ≡ Ok x → DeclaredSteps at s x.declared × (target_of x.declared.objects x.declared.variables s.problem.needed ≡ Ok x.target)
  unfolding data_of
  data_steps x h =
      let a = bound (declared_of at s) on_lists x h in
      let b = bound (target_of a.0.objects a.0.variables s.problem.needed) (all_data a.0) x a.2 in
      let it : Data = record { declared = a.0; target = b.0 } in
      subst (λ (y : Data). DeclaredSteps at s y.declared × (target_of y.declared.objects y.declared.variables s.problem.needed ≡ Ok y.target)) {x = it} (ok_same it x b.2) (declared_steps at s a.0 a.1, b.1)

module _ (read : Reading) (domain problem : Tree) where
  abbrev all_parts : Settings → Data → Rules → List Ground → Reads Parts
  all_parts s x r grounds = Ok (parts_with s x.declared x.target r grounds)

  abbrev on_rules : Settings → Data → Rules → Reads Parts
  on_rules s x r = grounded_of x.declared r.moves >>= all_parts s x r

  abbrev on_data : Settings → Data → Reads Parts
  on_data s x = rules_of read (tree_place domain) s x.declared >>= on_rules s x

  abbrev on_settings : Settings → Reads Parts
  on_settings s = data_of (tree_place problem) s >>= on_data s

  pub meaning_steps : (x : Parts) → meaning read domain problem ≡ Ok x → MeaningSteps read domain problem x
  unfolding meaning
  meaning_steps x h =
      let a = bound (settings_of domain problem) on_settings x h in
      let b = bound (data_of (tree_place problem) a.0) (on_data a.0) x a.2 in
      let e = bound (rules_of read (tree_place domain) a.0 b.0.declared) (on_rules a.0 b.0) x b.2 in
      let f = bound (grounded_of b.0.declared e.0.moves) (all_parts a.0 b.0 e.0) x e.2 in
      let d = data_steps (tree_place problem) a.0 b.0 b.1 in
      record {
        settings = a.0;
        declared = b.0.declared;
        target = b.0.target;
        rules = e.0;
        grounds = f.0;
        is_settings = settings_steps domain problem a.0 a.1;
        is_declared = d.0;
        is_target = d.1;
        is_rules = rules_steps read (tree_place domain) a.0 b.0.declared e.0 e.1;
        whole = ok_same (parts_with a.0 b.0.declared b.0.target e.0 f.0) x f.2;
      }
