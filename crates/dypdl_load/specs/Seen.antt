-- What the structs of the code stand for.
use Rattle.std.specs.Prelude.{ℕ, List, map, String, string_bytes}
use Rattle.indexmap.specs.IndexSet.{IndexSet}
use Rattle.dypdl_load.specs.Settings.{File, Settings}
use Rattle.dypdl_load.specs.Together.{Grounding}
use Rattle.dypdl_load.specs.declared.settings.File.{File as FileRead}
use Rattle.dypdl_load.specs.declared.settings.Settings.{Settings as SettingsRead}
use Rattle.dypdl_load.specs.declared.together.Grounding.{Grounding as GroundingRead}
use Rattle.dypdl_rules.specs.Declarations.{Declared}
use Rattle.dypdl_load.specs.Meaning.{Data, StateRules, Rules, Parts}
use Rattle.dypdl_load.specs.declared.whole.Lists.{Lists as ListsRead}
use Rattle.dypdl_load.specs.declared.whole.Data.{Data as DataRead}
use Rattle.dypdl_load.specs.declared.whole.StateRules.{StateRules as StateRulesRead}
use Rattle.dypdl_load.specs.declared.whole.Rules.{Rules as RulesRead}
use Rattle.dypdl_load.specs.declared.whole.Parts.{Parts as PartsRead}

abbrev pub file_seen : FileRead → File
file_seen f = record { entries = f.entries.now; needed = f.needed.now }

abbrev pub settings_seen : SettingsRead → Settings
settings_seen s = record {
  domain = file_seen s.domain;
  problem = file_seen s.problem;
  domain_title = s.domain_title.now;
  problem_title = s.problem_title.now;
  minimize = s.minimize;
}

-- how far grounding has come
abbrev pub grounding_seen : GroundingRead → Grounding
grounding_seen g = record { number = g.number; grounds = g.grounds.items }

-- the texts of a set, in order of adding
abbrev pub texts_seen : {A S : Type 0} → IndexSet (String A) S → List (List ℕ)
texts_seen texts = map string_bytes texts.keys

abbrev pub lists_seen : ListsRead → Declared
lists_seen l = record { objects = l.objects.list; variables = l.variables.list; tables = l.tables.list }

abbrev pub data_seen : DataRead → Data
data_seen d = record { declared = record { objects = d.objects; variables = d.variables; tables = d.tables }; target = d.target }

abbrev pub state_rules_seen : StateRulesRead → StateRules
state_rules_seen c = record { constraints = c.constraints; base_cases = c.base_cases; bounds = c.bounds }

abbrev pub rules_seen : RulesRead → Rules
rules_seen r = record { moves = r.moves; join = r.join; constraints = r.constraints; base_cases = r.base_cases; bounds = r.bounds }

abbrev pub parts_seen : PartsRead → Parts
parts_seen p = record {
  domain = p.domain;
  problem = p.problem;
  minimize = p.minimize;
  join = p.join;
  objects = p.objects;
  variables = p.variables;
  tables = p.tables;
  transitions = p.transitions;
  grounds = p.grounds;
  constraints = p.constraints;
  base_cases = p.base_cases;
  bounds = p.bounds;
  target = p.target;
}
