-- Keys: which are the same, and which are too deep.
use Rattle.std.specs.Prelude.{ℕ, zero, suc, Bool, true, false, ◌&&◌, List, [], ◌∷◌, Option, None, Some}
use Rattle.std.specs.List.{list_any}
use Rattle.std.specs.Str.{bytes_eq}
use Rattle.dp_base.specs.declared.place.Place.{Place}
use Rattle.yaml_tree.specs.declared.tree.Tree.{Tree}
use Rattle.yaml_tree.specs.declared.tree.Tree as trees
use Rattle.yaml_tree.specs.declared.tree.Pair.{Pair}
use Rattle.yaml_tree.specs.declared.tree.Pair as pairs

-- ---- the same key: scalars by their text, lists item by item, maps pair by pair in order

abbrev pub TreeTest : Type 0
TreeTest = Tree → Bool

abbrev pub PairTest : Type 0
PairTest = Pair → Bool

abbrev pub each_passes : {A : Type 0} → List (A → Bool) → List A → Bool
each_passes [] [] = true
each_passes [] (x ∷ xs) = false
each_passes (test ∷ tests) [] = false
each_passes (test ∷ tests) (x ∷ xs) = test x && each_passes tests xs

abbrev pub same_form : trees.Tree-F TreeTest PairTest → trees.Tree-F Tree Pair → Bool
same_form (trees.Tree-F.Scalar at text) (trees.Tree-F.Scalar at' text') = bytes_eq text text'
same_form (trees.Tree-F.List at tests) (trees.Tree-F.List at' items') = each_passes tests items'
same_form (trees.Tree-F.Map at tests) (trees.Tree-F.Map at' pairs') = each_passes tests pairs'
same_form (trees.Tree-F.Scalar at text) other = false
same_form (trees.Tree-F.List at tests) other = false
same_form (trees.Tree-F.Map at tests) other = false

abbrev pub same_step : trees.Tree-F TreeTest PairTest → TreeTest
same_step form other = same_form form (trees.out-Tree other)

abbrev pub same_pair_step : pairs.Pair-F TreeTest PairTest → PairTest
same_pair_step tests pair = tests.key pair.key && tests.value pair.value

abbrev pub same_key : Tree → Tree → Bool
same_key = trees.fold-Tree TreeTest PairTest same_step same_pair_step

-- a key that equals one of an earlier entry
abbrev pub stands_before : Tree → List Pair → Bool
stands_before key earlier = list_any (λ (p : Pair). same_key key p.key) earlier

-- ---- the first node of a key for which no level is left

abbrev pub DeepPlace : Type 0
DeepPlace = ℕ → Option Place

abbrev pub or_else : Option Place → Option Place → Option Place
or_else (Some at) later = Some at
or_else None later = later

abbrev pub first_deep : ℕ → List DeepPlace → Option Place
first_deep levels [] = None
first_deep levels (deep ∷ others) = or_else (deep levels) (first_deep levels others)

abbrev pub deep_step : trees.Tree-F DeepPlace DeepPlace → DeepPlace
deep_step (trees.Tree-F.Scalar at text) zero = Some at
deep_step (trees.Tree-F.Scalar at text) (suc levels) = None
deep_step (trees.Tree-F.List at items) zero = Some at
deep_step (trees.Tree-F.List at items) (suc levels) = first_deep levels items
deep_step (trees.Tree-F.Map at entries) zero = Some at
deep_step (trees.Tree-F.Map at entries) (suc levels) = first_deep levels entries

abbrev pub deep_pair_step : pairs.Pair-F DeepPlace DeepPlace → DeepPlace
deep_pair_step pair levels = or_else (pair.key levels) (pair.value levels)

abbrev pub deep_place : Tree → DeepPlace
deep_place = trees.fold-Tree DeepPlace DeepPlace deep_step deep_pair_step
