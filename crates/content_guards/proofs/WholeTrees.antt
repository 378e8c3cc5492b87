-- Trees whose scalars are whole characters.
use Rattle.std.proofs.Common.{◌≡◌, ℕ, Bool, true, ◌&&◌, List, [], ◌∷◌, map, Some, refl, sym, ap, ◌∙◌, subst, inl, inr}
use Rattle.std.specs.List.{list_all}
use Rattle.std.proofs.lemmas.Bool.{and_parts}
use Rattle.std.proofs.lemmas.List.Folds.{list_all-map}
use Rattle.dp_base.specs.declared.place.Place.{Place}
use Rattle.yaml_tree.specs.Fields.{form_text, form_items, form_entries, scalar_text, list_items, map_entries, is_text, value_in}
use Rattle.yaml_tree.specs.Within.{all_are}
use Rattle.yaml_tree.specs.declared.tree.Tree.{Tree}
use Rattle.yaml_tree.specs.declared.tree.Tree as trees
use Rattle.yaml_tree.specs.declared.tree.Tree.TheVariants as made
use Rattle.yaml_tree.specs.declared.tree.Pair.{Pair}
use Rattle.yaml_tree.specs.declared.tree.Pair as pairs
use Rattle.yaml_tree.proofs.Sizes.{chosen}
use Rattle.content_guards.proofs.Whole.{whole}

abbrev whole_step : trees.Tree-F Bool Bool → Bool
whole_step (trees.Tree-F.Scalar at text) = whole [] text
whole_step (trees.Tree-F.List at items) = all_are items
whole_step (trees.Tree-F.Map at entries) = all_are entries

abbrev whole_pair_step : pairs.Pair-F Bool Bool → Bool
whole_pair_step pair = pair.key && pair.value

-- the text of each scalar of a tree, also of those in keys, is whole characters
abbrev pub is_whole : Tree → Bool
is_whole = trees.fold-Tree Bool Bool whole_step whole_pair_step

abbrev pub whole_pair : Pair → Bool
whole_pair pair = is_whole pair.key && is_whole pair.value

-- the fold, one step into a tree
is_whole-form : (tree : Tree) (form : trees.Tree-F Tree Pair) → trees.out-Tree tree ≡ form
    → is_whole tree ≡ whole_step (trees.map-Tree Tree Pair Bool Bool is_whole (pairs.fold-Pair Bool Bool whole_step whole_pair_step) form)
is_whole-form tree form is =
    trees.fold_out-Tree Bool Bool whole_step whole_pair_step tree ∙
    ap (λ (x : trees.Tree-F Tree Pair). whole_step (trees.map-Tree Tree Pair Bool Bool is_whole (pairs.fold-Pair Bool Bool whole_step whole_pair_step) x)) is

whole_pair-fold : (pair : Pair) → pairs.fold-Pair Bool Bool whole_step whole_pair_step pair ≡ whole_pair pair
whole_pair-fold pair = pairs.fold_out-Pair Bool Bool whole_step whole_pair_step pair

all_pairs : (entries : List Pair) → all_are (map (pairs.fold-Pair Bool Bool whole_step whole_pair_step) entries) ≡ list_all whole_pair entries
all_pairs [] = refl
all_pairs (entry ∷ entries) = λ i. whole_pair-fold entry i && all_pairs entries i

is_whole-scalar : (tree : Tree) (at : Place) (text : List ℕ) → trees.out-Tree tree ≡ trees.Tree-F.Scalar at text → is_whole tree ≡ whole [] text
is_whole-scalar tree at text is = is_whole-form tree (trees.Tree-F.Scalar at text) is

is_whole-list : (tree : Tree) (at : Place) (items : List Tree) → trees.out-Tree tree ≡ trees.Tree-F.List at items → is_whole tree ≡ list_all is_whole items
is_whole-list tree at items is = is_whole-form tree (trees.Tree-F.List at items) is ∙ list_all-map (λ (test : Bool). test) is_whole items

is_whole-map : (tree : Tree) (at : Place) (entries : List Pair) → trees.out-Tree tree ≡ trees.Tree-F.Map at entries → is_whole tree ≡ list_all whole_pair entries
is_whole-map tree at entries is = is_whole-form tree (trees.Tree-F.Map at entries) is ∙ all_pairs entries

-- ---- what makes a tree such a one

pub scalar_whole : (at : Place) (text : List ℕ) → whole [] text ≡ true → is_whole (made.Scalar at text) ≡ true
scalar_whole at text h = is_whole-scalar (made.Scalar at text) at text (made.outs-Scalar at text) ∙ h

pub list_whole : (at : Place) (items : List Tree) → list_all is_whole items ≡ true → is_whole (made.List at items) ≡ true
list_whole at items h = is_whole-list (made.List at items) at items (made.outs-List at items) ∙ h

pub map_whole : (at : Place) (entries : List Pair) → list_all whole_pair entries ≡ true → is_whole (made.Map at entries) ≡ true
map_whole at entries h = is_whole-map (made.Map at entries) at entries (made.outs-Map at entries) ∙ h

-- ---- what is known of such a tree

pub text_whole : (tree : Tree) (text : List ℕ) → is_whole tree ≡ true → scalar_text tree ≡ Some text → whole [] text ≡ true
text_whole tree text h is = by (trees.out-Tree tree) refl is
  where
    by : (form : trees.Tree-F Tree Pair) → trees.out-Tree tree ≡ form → form_text form ≡ Some text → whole [] text ≡ true
    by (trees.Tree-F.Scalar at other) e k = let same : other ≡ text = cc k in subst (λ (l : List ℕ). whole [] l ≡ true) same (sym (is_whole-scalar tree at other e) ∙ h)
    by (trees.Tree-F.List at items) e k = absurd (cc k)
    by (trees.Tree-F.Map at entries) e k = absurd (cc k)

pub items_whole : (tree : Tree) (items : List Tree) → is_whole tree ≡ true → list_items tree ≡ Some items → list_all is_whole items ≡ true
items_whole tree items h is = by (trees.out-Tree tree) refl is
  where
    by : (form : trees.Tree-F Tree Pair) → trees.out-Tree tree ≡ form → form_items form ≡ Some items → list_all is_whole items ≡ true
    by (trees.Tree-F.Scalar at text) e k = absurd (cc k)
    by (trees.Tree-F.List at other) e k = let same : other ≡ items = cc k in subst (λ (l : List Tree). list_all is_whole l ≡ true) same (sym (is_whole-list tree at other e) ∙ h)
    by (trees.Tree-F.Map at entries) e k = absurd (cc k)

pub entries_whole : (tree : Tree) → is_whole tree ≡ true → list_all whole_pair (map_entries tree) ≡ true
entries_whole tree h = by (trees.out-Tree tree) refl
  where
    by : (form : trees.Tree-F Tree Pair) → trees.out-Tree tree ≡ form → list_all whole_pair (form_entries form) ≡ true
    by (trees.Tree-F.Scalar at text) e = refl
    by (trees.Tree-F.List at items) e = refl
    by (trees.Tree-F.Map at entries) e = sym (is_whole-map tree at entries e) ∙ h

pub value_whole : (name : List ℕ) (entries : List Pair) (tree : Tree) → list_all whole_pair entries ≡ true → value_in name entries ≡ Some tree → is_whole tree ≡ true
value_whole name [] tree h is = absurd (cc is)
value_whole name (pair ∷ entries) tree h is =
    let parts = and_parts (whole_pair pair) (list_all whole_pair entries) h in
    elim (chosen (is_text name (scalar_text pair.key)) _ _ _ is) [
      | inl k ↦ let same : pair.value ≡ tree = cc k.1 in subst (λ (t : Tree). is_whole t ≡ true) same (and_parts (is_whole pair.key) (is_whole pair.value) parts.0).1
      | inr k ↦ value_whole name entries tree parts.1 k.1
    ]
