-- When the scalars of a scalar, a list or a map are within a length.
use Rattle.std.proofs.Common.{◌≡◌, ℕ, Bool, true, ◌&&◌, ◌≤◌, nat_le, List, [], ◌∷◌, length, map, refl, sym, ap, ◌∙◌}
use Rattle.std.specs.List.{All, list_all}
use Rattle.std.specs.Prelude.{slice_index_or}
use Rattle.std.proofs.lemmas.List.Sums.{AllPass-from_list_all}
use Rattle.std.proofs.lemmas.Bool.{le-leb, leb-true, and_parts}
use Rattle.std.proofs.lemmas.List.Folds.{list_all-map}
use Rattle.dp_base.specs.declared.place.Place.{Place}
use Rattle.yaml_tree.specs.Within.{all_are, within_step, within_pair_step, is_within, IsWithin}
use Rattle.yaml_tree.specs.declared.tree.Tree.{Tree}
use Rattle.yaml_tree.specs.declared.tree.Tree as trees
use Rattle.yaml_tree.specs.declared.tree.Tree.TheVariants as made
use Rattle.yaml_tree.specs.declared.tree.Pair.{Pair}
use Rattle.yaml_tree.specs.declared.tree.Pair as pairs

-- the fold, one step into a tree
is_within-form : (most : ℕ) (tree : Tree) (form : trees.Tree-F Tree Pair) → trees.out-Tree tree ≡ form
    → is_within most tree ≡ within_step most (trees.map-Tree Tree Pair Bool Bool (is_within most) (pairs.fold-Pair Bool Bool (within_step most) within_pair_step) form)
is_within-form most tree form is =
    trees.fold_out-Tree Bool Bool (within_step most) within_pair_step tree ∙
    ap (λ (x : trees.Tree-F Tree Pair). within_step most (trees.map-Tree Tree Pair Bool Bool (is_within most) (pairs.fold-Pair Bool Bool (within_step most) within_pair_step) x)) is

abbrev pub pair_within : ℕ → Pair → Bool
pair_within most pair = is_within most pair.key && is_within most pair.value

pair_within-fold : (most : ℕ) (pair : Pair) → pairs.fold-Pair Bool Bool (within_step most) within_pair_step pair ≡ pair_within most pair
pair_within-fold most pair = pairs.fold_out-Pair Bool Bool (within_step most) within_pair_step pair

is_within-scalar : (most : ℕ) (at : Place) (text : List ℕ) → is_within most (made.Scalar at text) ≡ nat_le (length text) most
is_within-scalar most at text = is_within-form most (made.Scalar at text) (trees.Tree-F.Scalar at text) (made.outs-Scalar at text)

is_within-list : (most : ℕ) (at : Place) (items : List Tree) → is_within most (made.List at items) ≡ list_all (is_within most) items
is_within-list most at items =
    is_within-form most (made.List at items) (trees.Tree-F.List at items) (made.outs-List at items) ∙
    list_all-map (λ (test : Bool). test) (is_within most) items

all_pairs : (most : ℕ) (entries : List Pair) → all_are (map (pairs.fold-Pair Bool Bool (within_step most) within_pair_step) entries) ≡ list_all (pair_within most) entries
all_pairs most [] = refl
all_pairs most (entry ∷ entries) = λ i. pair_within-fold most entry i && all_pairs most entries i

is_within-map : (most : ℕ) (at : Place) (entries : List Pair) → is_within most (made.Map at entries) ≡ list_all (pair_within most) entries
is_within-map most at entries =
    is_within-form most (made.Map at entries) (trees.Tree-F.Map at entries) (made.outs-Map at entries) ∙ all_pairs most entries

-- ---- what makes a tree within a length

pub scalar_within : (most : ℕ) (at : Place) (text : List ℕ) → length text ≤ most → IsWithin most (made.Scalar at text)
scalar_within most at text short = is_within-scalar most at text ∙ le-leb (length text) most short

pub list_within : (most : ℕ) (at : Place) (items : List Tree) → list_all (is_within most) items ≡ true → IsWithin most (made.List at items)
list_within most at items all = is_within-list most at items ∙ all

pub map_within : (most : ℕ) (at : Place) (entries : List Pair) → list_all (pair_within most) entries ≡ true → IsWithin most (made.Map at entries)
map_within most at entries all = is_within-map most at entries ∙ all

-- ---- what is known of a tree within a length

pub within_scalar : (most : ℕ) (at : Place) (text : List ℕ) → IsWithin most (made.Scalar at text) → length text ≤ most
within_scalar most at text is = leb-true (length text) most (sym (is_within-scalar most at text) ∙ is)

pub within_list : (most : ℕ) (at : Place) (items : List Tree) → IsWithin most (made.List at items) → All (IsWithin most) items
within_list most at items is = AllPass-from_list_all (is_within most) items (sym (is_within-list most at items) ∙ is)

pub within_map : (most : ℕ) (at : Place) (entries : List Pair) → IsWithin most (made.Map at entries) → All (λ (pair : Pair). IsWithin most pair.key × IsWithin most pair.value) entries
within_map most at entries is k d inside =
    let pair : Pair = slice_index_or entries k d in
    and_parts (is_within most pair.key) (is_within most pair.value) (AllPass-from_list_all (pair_within most) entries (sym (is_within-map most at entries) ∙ is) k d inside)
