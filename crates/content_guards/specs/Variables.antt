-- What the items of the list of state variables give to the variables of a model.
use Rattle.std.specs.Prelude.{◌≡◌, ℕ, List, codes, slice_get, Option, None, Some, Ok, pos}
use Rattle.dp_claims.specs.Dominance.{AtLeast}
use Rattle.dp_model.specs.declared.parts.ObjectType.{ObjectType}
use Rattle.dp_model.specs.declared.parts.PlainValue.TheVariants.{Number}
use Rattle.dp_model.specs.declared.parts.Preference.{Preference}
use Rattle.dp_model.specs.declared.parts.Preference.TheVariants.{Without, Less, Greater}
use Rattle.dp_model.specs.declared.parts.VarKind.{VarKind}
use Rattle.dp_model.specs.declared.parts.VarKind.TheVariants as kinds
use Rattle.dp_model.specs.declared.parts.Variable.{Variable}
use Rattle.dp_model.specs.declared.whole.Model.{Model}
use Rattle.yaml_tree.specs.declared.tree.Tree.{Tree}
use Rattle.yaml_tree.specs.Fields.{map_entries, value_in}
use Rattle.dypdl_data.specs.Variables.{variables_of}
use Rattle.dypdl_rules.specs.Expressions.{Reading}
use Rattle.dypdl_load.specs.Meaning.{meaning, parts_of}
use Rattle.content_laws.specs.Files.{under_key, items_in, word_in}

-- the word under a key of the map that declares something
abbrev pub word_under : Tree → (name : List ℕ) → Option (List ℕ)
word_under item name = word_in (value_in name (map_entries item))

-- the object type of this number is the one that is named
abbrev pub Names : List ObjectType → Option (List ℕ) → ℕ → Type 0
Names objects word o = (t : ObjectType) × (slice_get objects o ≡ Some t) × (word ≡ Some t.name)

-- the words under `type` and `object` are of this kind
abbrev pub IsOfKind : List ObjectType → Tree → VarKind → Type 0
IsOfKind objects item kinds.Integer = word_under item (codes "type") ≡ Some (codes "integer")
IsOfKind objects item (kinds.Element o) = (word_under item (codes "type") ≡ Some (codes "element")) × Names objects (word_under item (codes "object")) o
IsOfKind objects item (kinds.Set o) = (word_under item (codes "type") ≡ Some (codes "set")) × Names objects (word_under item (codes "object")) o

-- so is the word under `preference`, where there is one
abbrev pub IsPreferred : Tree → Preference → Type 0
IsPreferred item Without = value_in (codes "preference") (map_entries item) ≡ None
IsPreferred item Less = word_under item (codes "preference") ≡ Some (codes "less")
IsPreferred item Greater = word_under item (codes "preference") ≡ Some (codes "greater")

-- the variable is what the item says
pub record IsDeclared (objects : List ObjectType) (item : Tree) (v : Variable) : Type 0 where
  pub name : word_under item (codes "name") ≡ Some v.name
  pub kind : IsOfKind objects item v.kind
  pub preference : IsPreferred item v.preference

-- the variable of a number is declared by the item at its place
abbrev pub IsOfItem : List ObjectType → Tree → ℕ → Variable → Type 0
IsOfItem objects tree i v = (item : Tree) × (slice_get (items_in (Some tree)) i ≡ Some item) × IsDeclared objects item v

abbrev pub LawVariables : Type 0
LawVariables = (objects : List ObjectType) (tree : Tree) (variables : List Variable) → variables_of objects tree ≡ Ok variables → (i : ℕ) (v : Variable) → slice_get variables i ≡ Some v → IsOfItem objects tree i v

-- the same of a model that two trees mean
abbrev pub LawVariablesOf : Type 0
LawVariablesOf =
    (read : Reading) (domain problem : Tree) (m : Model) → meaning read domain problem ≡ Ok (parts_of m)
    → (i : ℕ) (v : Variable) → slice_get m.variables i ≡ Some v → (tree : Tree) × (under_key domain (codes "state_variables") ≡ Some tree) × IsOfItem m.objects tree i v

-- of a variable for which less is better 1 is at least as good as 2, and 2 is not as good as 1; where greater is better it is the other
-- way round; and else neither is as good as the other
pub record LawPreferences : Type 0 where
  pub less : AtLeast Less (Number (pos 1)) (Number (pos 2))
  pub not_less : AtLeast Less (Number (pos 2)) (Number (pos 1)) → ⊥
  pub greater : AtLeast Greater (Number (pos 2)) (Number (pos 1))
  pub not_greater : AtLeast Greater (Number (pos 1)) (Number (pos 2)) → ⊥
  pub same : AtLeast Without (Number (pos 1)) (Number (pos 1))
  pub not_same : AtLeast Without (Number (pos 1)) (Number (pos 2)) → ⊥
