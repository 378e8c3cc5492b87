-- The target state, variable by variable.
use Rattle.std.specs.Prelude.{◌≡◌, ℕ, List, codes, slice_get, Some, Ok}
use Rattle.dp_model.specs.declared.parts.ObjectType.{ObjectType}
use Rattle.dp_model.specs.declared.parts.Variable.{Variable}
use Rattle.dp_model.specs.declared.parts.PlainValue.{PlainValue}
use Rattle.dp_model.specs.declared.parts.PlainState.{PlainState}
use Rattle.yaml_tree.specs.declared.tree.Tree.{Tree}
use Rattle.yaml_tree.specs.declared.tree.Pair.{Pair}
use Rattle.yaml_tree.specs.Fields.{map_entries}
use Rattle.dp_model.specs.declared.whole.Model.{Model}
use Rattle.dypdl_data.specs.Target.{value_of, target_of}
use Rattle.dypdl_rules.specs.Expressions.{Reading}
use Rattle.dypdl_load.specs.Meaning.{meaning, parts_of}
use Rattle.content_laws.specs.Entries.{IsUnder}
use Rattle.content_laws.specs.Files.{under_key}

-- the state's value of the variable of number i is the one that is written under its name
pub record IsGiven (objects : List ObjectType) (entries : List Pair) (s : PlainState) (i : ℕ) (v : Variable) : Type 0 where
  pub pair : Pair
  pub value : PlainValue
  pub under : IsUnder entries v.name pair
  pub read : value_of objects v.kind pair.value ≡ Ok value
  pub held : slice_get s.values i ≡ Some value

-- Each variable of a target that is read has the value under its name.
abbrev pub LawTarget : Type 0
LawTarget =
    (objects : List ObjectType) (variables : List Variable) (tree : Tree) (s : PlainState) → target_of objects variables tree ≡ Ok s
    → (i : ℕ) (v : Variable) → slice_get variables i ≡ Some v → IsGiven objects (map_entries tree) s i v

-- the same of a model that two trees mean, of which `specs/Worked` writes some out
abbrev pub LawTargetOf : Type 0
LawTargetOf =
    (read : Reading) (domain problem : Tree) (m : Model) → meaning read domain problem ≡ Ok (parts_of m)
    → (i : ℕ) (v : Variable) → slice_get m.variables i ≡ Some v
    → (tree : Tree) × (under_key problem (codes "target") ≡ Some tree) × IsGiven m.objects (map_entries tree) m.target i v
