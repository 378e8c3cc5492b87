-- Which costs are better.
use Rattle.std.specs.Prelude.{◌≡◌, ℕ, Bool, true, false, ◌⊎◌, List, codes, Option, None, Some, Ok}
use Rattle.std.specs.Option.{option_or}
use Rattle.dp_model.specs.declared.whole.Model.{Model}
use Rattle.yaml_tree.specs.declared.tree.Tree.{Tree}
use Rattle.dypdl_rules.specs.Expressions.{Reading}
use Rattle.dypdl_load.specs.Meaning.{meaning, parts_of}
use Rattle.content_laws.specs.Files.{under_key, word_in}

-- the word under `reduce` of the problem, or else of the domain
abbrev pub reduce_word : (domain problem : Tree) → Option (List ℕ)
reduce_word domain problem = option_or (word_in (under_key problem (codes "reduce"))) (word_in (under_key domain (codes "reduce")))

-- `max` makes the greater cost better; `min`, and no word, the lesser; and no other word is there
abbrev pub Decides : Option (List ℕ) → (minimize : Bool) → Type 0
Decides word minimize = ((word ≡ Some (codes "max")) × (minimize ≡ false)) ⊎ (((word ≡ Some (codes "min")) ⊎ (word ≡ None)) × (minimize ≡ true))

-- the word decides for each model that two trees mean, of which `specs/Worked` writes some out
abbrev pub LawReduce : Type 0
LawReduce = (read : Reading) (domain problem : Tree) (m : Model) → meaning read domain problem ≡ Ok (parts_of m) → Decides (reduce_word domain problem) m.minimize
