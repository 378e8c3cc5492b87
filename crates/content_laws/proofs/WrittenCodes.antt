-- Trees that are the same but for places, by a code of theirs and by how deep they are.
use Rattle.std.proofs.Common.{◌≡◌, ℕ, zero, suc, Bool, true, false, ◌||◌, List, [], ◌∷◌, ◌++◌, map, Option, None, Some, refl, sym, ap, ◌∙◌}
use Rattle.std.specs.List.{All}
use Rattle.std.specs.Str.{bytes_eq}
use Rattle.std.proofs.lemmas.List.Elements.{All-head, All-tail, All-weaker}
use Rattle.dp_base.specs.declared.place.Place.{Place}
use Rattle.yaml_tree.specs.Keys.{DeepPlace, or_else, first_deep, deep_step, deep_pair_step, deep_place, stands_before}
use Rattle.yaml_tree.specs.Known.{code_of, byte_code, code_step, pair_code_step, key_code, pair_code, deep_pair}
use Rattle.yaml_tree.specs.declared.tree.Tree.{Tree}
use Rattle.yaml_tree.specs.declared.tree.Tree as trees
use Rattle.yaml_tree.specs.declared.tree.Pair.{Pair}
use Rattle.yaml_tree.specs.declared.tree.Pair as pairs
use Rattle.yaml_tree.proofs.KeyCodes.{same_code}
use Rattle.content_laws.specs.Writing.{IsNoMap, WritableForm, IsWritableIn}

-- ---- what two trees share that are the same but for places

abbrev found : Option Place → Bool
found (Some at) = true
found None = false

abbrev found_at : DeepPlace → ℕ → Bool
found_at deep levels = found (deep levels)

-- a node is too deep for so many levels
abbrev pub is_deep : Tree → ℕ → Bool
is_deep tree levels = found (deep_place tree levels)

abbrev pub TreeCodes : Type 0
TreeCodes = List ℕ × (ℕ → Bool)

abbrev pub tree_codes : Tree → TreeCodes
tree_codes tree = (key_code tree, is_deep tree)

abbrev pub PairCodes : Type 0
PairCodes = TreeCodes × TreeCodes

abbrev pub pair_codes : Pair → PairCodes
pair_codes pair = (tree_codes pair.key, tree_codes pair.value)

-- ---- one step into a tree

abbrev any_deep : ℕ → List (ℕ → Bool) → Bool
any_deep levels [] = false
any_deep levels (deep ∷ others) = deep levels || any_deep levels others

abbrev deep_over : List (ℕ → Bool) → ℕ → Bool
deep_over parts zero = true
deep_over parts (suc levels) = any_deep levels parts

abbrev form_codes : (kind : ℕ) → List (List ℕ) → List (ℕ → Bool) → TreeCodes
form_codes kind parts deep = (code_of kind parts, deep_over deep)

code_form : (tree : Tree) (form : trees.Tree-F Tree Pair) → trees.out-Tree tree ≡ form
    → key_code tree ≡ code_step (trees.map-Tree Tree Pair (List ℕ) (List ℕ) key_code pair_code form)
code_form tree form is =
    trees.fold_out-Tree (List ℕ) (List ℕ) code_step pair_code_step tree
    ∙ ap (λ (x : trees.Tree-F Tree Pair). code_step (trees.map-Tree Tree Pair (List ℕ) (List ℕ) key_code pair_code x)) is

deep_form : (tree : Tree) (form : trees.Tree-F Tree Pair) → trees.out-Tree tree ≡ form
    → deep_place tree ≡ deep_step (trees.map-Tree Tree Pair DeepPlace DeepPlace deep_place deep_pair form)
deep_form tree form is =
    trees.fold_out-Tree DeepPlace DeepPlace deep_step deep_pair_step tree
    ∙ ap (λ (x : trees.Tree-F Tree Pair). deep_step (trees.map-Tree Tree Pair DeepPlace DeepPlace deep_place deep_pair x)) is

found-either : (a b : Option Place) → found (or_else a b) ≡ (found a || found b)
found-either (Some at) b = refl
found-either None b = refl

any_found : (levels : ℕ) (deep : List DeepPlace) → found (first_deep levels deep) ≡ any_deep levels (map found_at deep)
any_found levels [] = refl
any_found levels (d ∷ deep) = found-either (d levels) (first_deep levels deep) ∙ ap (λ (b : Bool). found (d levels) || b) (any_found levels deep)

-- scalars

deep_scalar : (at : Place) (text : List ℕ) (levels : ℕ) → found (deep_step (trees.Tree-F.Scalar at text) levels) ≡ deep_over [] levels
deep_scalar at text zero = refl
deep_scalar at text (suc levels) = refl

pub scalar_codes : (tree : Tree) (at : Place) (text : List ℕ) → trees.out-Tree tree ≡ trees.Tree-F.Scalar at text → tree_codes tree ≡ form_codes 1 (map byte_code text) []
scalar_codes tree at text is =
    λ i. (code_form tree (trees.Tree-F.Scalar at text) is i, λ levels. (ap (λ (d : DeepPlace). found (d levels)) (deep_form tree (trees.Tree-F.Scalar at text) is) ∙ deep_scalar at text levels) i)

-- lists

abbrev pub list_codes : List TreeCodes → TreeCodes
list_codes cs = form_codes 2 (map (λ (c : TreeCodes). c.0) cs) (map (λ (c : TreeCodes). c.1) cs)

deep_list : (at : Place) (items : List Tree) (levels : ℕ) → found (deep_step (trees.Tree-F.List at (map deep_place items)) levels) ≡ deep_over (map is_deep items) levels
deep_list at items zero = refl
deep_list at items (suc levels) = any_found levels (map deep_place items) ∙ ap (any_deep levels) (twice items) where
  twice : (xs : List Tree) → map found_at (map deep_place xs) ≡ map is_deep xs
  twice [] = refl
  twice (x ∷ xs) = ap (λ (l : List (ℕ → Bool)). is_deep x ∷ l) (twice xs)

firsts : {A B C : Type 0} (f : A → B) (g : B → C) (h : A → C) → ((x : A) → g (f x) ≡ h x) → (xs : List A) → map g (map f xs) ≡ map h xs
firsts f g h same [] = refl
firsts f g h same (x ∷ xs) = λ i. same x i ∷ firsts f g h same xs i

pub listed_codes : (tree : Tree) (at : Place) (items : List Tree) → trees.out-Tree tree ≡ trees.Tree-F.List at items → tree_codes tree ≡ list_codes (map tree_codes items)
listed_codes tree at items is =
    (λ i. (code_form tree (trees.Tree-F.List at items) is i, λ levels. (ap (λ (d : DeepPlace). found (d levels)) (deep_form tree (trees.Tree-F.List at items) is) ∙ deep_list at items levels) i))
    ∙ (λ i. form_codes 2 (sym (firsts tree_codes (λ (c : TreeCodes). c.0) key_code (λ x. refl) items) i) (sym (firsts tree_codes (λ (c : TreeCodes). c.1) is_deep (λ x. refl) items) i))

-- maps

abbrev pair_deep : PairCodes → ℕ → Bool
pair_deep c levels = c.0.1 levels || c.1.1 levels

abbrev pub map_codes : List PairCodes → TreeCodes
map_codes cs = form_codes 3 (map (λ (c : PairCodes). c.0.0 ++ c.1.0) cs) (map pair_deep cs)

deep_entry : (pair : Pair) (levels : ℕ) → found (deep_pair pair levels) ≡ pair_deep (pair_codes pair) levels
deep_entry pair levels =
    ap (λ (d : DeepPlace). found (d levels)) (pairs.fold_out-Pair DeepPlace DeepPlace deep_step deep_pair_step pair)
    ∙ found-either (deep_place pair.key levels) (deep_place pair.value levels)

deep_map : (at : Place) (entries : List Pair) (levels : ℕ) → found (deep_step (trees.Tree-F.Map at (map deep_pair entries)) levels) ≡ deep_over (map (λ (p : Pair). pair_deep (pair_codes p)) entries) levels
deep_map at entries zero = refl
deep_map at entries (suc levels) = any_found levels (map deep_pair entries) ∙ ap (any_deep levels) (twice entries) where
  twice : (xs : List Pair) → map found_at (map deep_pair xs) ≡ map (λ (p : Pair). pair_deep (pair_codes p)) xs
  twice [] = refl
  twice (x ∷ xs) = λ i. (λ l. deep_entry x l i) ∷ twice xs i

pub mapped_codes : (tree : Tree) (at : Place) (entries : List Pair) → trees.out-Tree tree ≡ trees.Tree-F.Map at entries → tree_codes tree ≡ map_codes (map pair_codes entries)
mapped_codes tree at entries is =
    (λ i. (code_form tree (trees.Tree-F.Map at entries) is i, λ levels. (ap (λ (d : DeepPlace). found (d levels)) (deep_form tree (trees.Tree-F.Map at entries) is) ∙ deep_map at entries levels) i))
    ∙ (λ i. form_codes 3 (codes entries i) (sym (firsts pair_codes pair_deep (λ (p : Pair). pair_deep (pair_codes p)) (λ x. refl) entries) i)) where
      codes : (xs : List Pair) → map pair_code xs ≡ map (λ (c : PairCodes). c.0.0 ++ c.1.0) (map pair_codes xs)
      codes [] = refl
      codes (pair ∷ xs) =
          let first : pair_code pair ≡ key_code pair.key ++ key_code pair.value = pairs.fold_out-Pair (List ℕ) (List ℕ) code_step pair_code_step pair in
          λ i. first i ∷ codes xs i

-- ---- keys before, by their codes

abbrev any_code : List ℕ → List PairCodes → Bool
any_code code [] = false
any_code code (c ∷ cs) = bytes_eq code c.0.0 || any_code code cs

stands-codes : (key : Tree) (before : List Pair) → stands_before key before ≡ any_code (key_code key) (map pair_codes before)
stands-codes key [] = refl
stands-codes key (pair ∷ before) = λ i. sym (same_code key pair.key) i || stands-codes key before i

pub stands_alike : (key other : Tree) (before earlier : List Pair) → tree_codes key ≡ tree_codes other → map pair_codes before ≡ map pair_codes earlier → stands_before other before ≡ stands_before key earlier
stands_alike key other before earlier same known =
    stands-codes other before ∙ (λ i. any_code (sym same i).0 (known i)) ∙ sym (stands-codes key earlier)

-- ---- a writable tree is not too deep

none_deep : {A : Type 0} (deep : A → ℕ → Bool) (levels : ℕ) (xs : List A) → All (λ (x : A). deep x levels ≡ false) xs → any_deep levels (map deep xs) ≡ false
none_deep deep levels [] all = refl
none_deep deep levels (x ∷ xs) all =
    λ i. All-head (λ y. deep y levels ≡ false) x xs all i || none_deep deep levels xs (All-tail (λ y. deep y levels ≡ false) x xs all) i

shallow_form : (levels : ℕ) → ((tree : Tree) → IsWritableIn levels tree → is_deep tree levels ≡ false) → (tree : Tree) (form : trees.Tree-F Tree Pair) → trees.out-Tree tree ≡ form
    → WritableForm (IsWritableIn levels) form → is_deep tree (suc levels) ≡ false
shallow_form levels each tree (trees.Tree-F.Scalar at text) is fit = ap (λ (c : TreeCodes). c.1 (suc levels)) (scalar_codes tree at text is)
shallow_form levels each tree (trees.Tree-F.List at items) is fit =
    ap (λ (c : TreeCodes). c.1 (suc levels)) (listed_codes tree at items is)
    ∙ ap (any_deep levels) (firsts tree_codes (λ (c : TreeCodes). c.1) is_deep (λ x. refl) items)
    ∙ none_deep is_deep levels items (All-weaker (IsWritableIn levels) (λ (x : Tree). is_deep x levels ≡ false) each items fit)
shallow_form levels each tree (trees.Tree-F.Map at entries) is fit =
    ap (λ (c : TreeCodes). c.1 (suc levels)) (mapped_codes tree at entries is)
    ∙ ap (any_deep levels) (firsts pair_codes pair_deep (λ (p : Pair). pair_deep (pair_codes p)) (λ x. refl) entries)
    ∙ none_deep (λ (p : Pair). pair_deep (pair_codes p)) levels entries
    (All-weaker (λ (entry : Pair). IsWritableIn levels entry.key × IsNoMap entry.key × IsWritableIn levels entry.value) (λ (p : Pair). pair_deep (pair_codes p) levels ≡ false)
    (λ p is. λ i. each p.key is.0 i || each p.value is.2 i) entries fit.0)

pub shallow : (levels : ℕ) (tree : Tree) → IsWritableIn levels tree → is_deep tree levels ≡ false
unfolding IsWritableIn
shallow zero tree fit = absurd fit
shallow (suc levels) tree fit = shallow_form levels (shallow levels) tree (trees.out-Tree tree) refl fit

not_found : (o : Option Place) → found o ≡ false → o ≡ None
not_found (Some at) e = absurd cc
not_found None e = refl

-- a tree that is the same as a writable one is not too deep either
pub no_deep_place : (levels : ℕ) (tree other : Tree) → IsWritableIn levels tree → tree_codes tree ≡ tree_codes other → deep_place other levels ≡ None
no_deep_place levels tree other fit same = not_found (deep_place other levels) (ap (λ (c : TreeCodes). c.1 levels) (sym same) ∙ shallow levels tree fit)

-- ---- one level more

more_form : (levels : ℕ) → ((tree : Tree) → IsWritableIn levels tree → IsWritableIn (suc levels) tree) → (form : trees.Tree-F Tree Pair) → WritableForm (IsWritableIn levels) form → WritableForm (IsWritableIn (suc levels)) form
more_form levels each (trees.Tree-F.Scalar at text) fit = fit
more_form levels each (trees.Tree-F.List at items) fit = All-weaker (IsWritableIn levels) (IsWritableIn (suc levels)) each items fit
more_form levels each (trees.Tree-F.Map at entries) fit = (
  All-weaker (λ (entry : Pair). IsWritableIn levels entry.key × IsNoMap entry.key × IsWritableIn levels entry.value) (λ (entry : Pair). IsWritableIn (suc levels) entry.key × IsNoMap entry.key × IsWritableIn (suc levels) entry.value)
      (λ entry is. (each entry.key is.0, is.1, each entry.value is.2)) entries fit.0,
  fit.1,
)

pub one_level_more : (levels : ℕ) (tree : Tree) → IsWritableIn levels tree → IsWritableIn (suc levels) tree
unfolding IsWritableIn
one_level_more zero tree fit = absurd fit
one_level_more (suc levels) tree fit = more_form levels (one_level_more levels) (trees.out-Tree tree) fit
