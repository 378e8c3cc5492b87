-- Nodes in block style: where they begin and end, and what is read of them.
use Rattle.std.proofs.Common.{◌≡◌, ◌||◌, ℕ, zero, suc, ◌+◌, Bool, true, false, if◌then◌else◌, List, [], ◌∷◌, ◌++◌, Ok, refl, sym, ap, ◌∙◌}
use Rattle.std.specs.List.{flat_map}
use Rattle.std.proofs.lemmas.Bool.{false≢true}
use Rattle.yaml_tree.specs.Rest.{Rest}
use Rattle.yaml_tree.specs.Characters.{is_item}
use Rattle.yaml_tree.specs.Flow.{Reading}
use Rattle.yaml_tree.specs.Blocks.{BlockNode}
use Rattle.yaml_tree.specs.declared.tree.Tree.{Tree}
use Rattle.yaml_tree.specs.declared.tree.Tree as trees
use Rattle.yaml_tree.specs.declared.tree.Pair.{Pair}
use Rattle.content_laws.specs.Writing.{Style, spaces, written, WritableForm, IsWritableIn}
use Rattle.content_laws.specs.BlockWriting.{Layout, Line, form_in_line, is_in_line, depth, behind_front, item_lines, value_lines, entry_lines, form_lines, block_lines}
use Rattle.std.proofs.lemmas.List.Elements.{All-head}
use Rattle.std.proofs.lemmas.List.{append-nil}
use Rattle.content_laws.proofs.WrittenCodes.{tree_codes}
use Rattle.content_laws.proofs.WrittenTurns.{Starts, starts_with}
use Rattle.content_laws.proofs.WrittenForms.{begun, starts_tree}
use Rattle.content_laws.proofs.WrittenRows.{AreRows, Stands, Under, UnderOrKey, under_or_key}

-- At this point the first of these lines begins, and the others and the tail stand below.
abbrev pub BeginsAt : Rest → (lines tail : List Line) → Type 0
BeginsAt from [] tail = ⊥
BeginsAt from (line ∷ lines) tail = (from.here ≡ line.1) × AreRows from.below (lines ++ tail)

-- reading a node at a point leaves the tail
pub record Settled (Node : Reading) (tree : Tree) (from : Rest) (tail : List Line) : Type 0 where
  pub read : Tree
  pub left : Rest
  pub node : Node from (Ok (read, left))
  pub below : Stands left.below tail
  pub same : tree_codes tree ≡ tree_codes read

-- the tail ends a node that stands so deep
abbrev pub EndsForm : trees.Tree-F Tree Pair → (indent : ℕ) → List Line → Type 0
EndsForm (trees.Tree-F.Scalar at text) indent tail = Unit {0}
EndsForm (trees.Tree-F.List at items) indent tail = UnderOrKey indent tail
EndsForm (trees.Tree-F.Map at entries) indent tail = Under indent tail

abbrev pub EndsBlock : Tree → (indent : ℕ) → List Line → Type 0
EndsBlock tree indent tail = EndsForm (trees.out-Tree tree) indent tail

pub ends_under : (form : trees.Tree-F Tree Pair) (indent : ℕ) (tail : List Line) → Under indent tail → EndsForm form indent tail
ends_under (trees.Tree-F.Scalar at text) indent tail under = tt
ends_under (trees.Tree-F.List at items) indent tail under = under_or_key indent tail under
ends_under (trees.Tree-F.Map at entries) indent tail under = under

abbrev pub is_item_list : (in_line : Bool) → trees.Tree-F Tree Pair → Bool
is_item_list true form = false
is_item_list false (trees.Tree-F.Scalar at text) = false
is_item_list false (trees.Tree-F.List at []) = false
is_item_list false (trees.Tree-F.List at (item ∷ items)) = true
is_item_list false (trees.Tree-F.Map at entries) = false

left_false : (a b : Bool) → (a || b) ≡ false → a ≡ false
left_false true b e = e
left_false false b e = refl

-- what is not written in one line is a list or a map that is not empty
pub no_line : (l : Layout) (tree : Tree) → is_in_line l tree ≡ false → form_in_line (trees.out-Tree tree) ≡ false
no_line l tree is = left_false (form_in_line (trees.out-Tree tree)) (l.in_flow tree) is

-- what is written of a tree is no item
pub tree_no_item : (style : Style) (tree : Tree) (behind here : List ℕ) → here ≡ written style tree ++ behind → is_item here ≡ false
tree_no_item style tree behind here is = ap is_item is ∙ (begun style tree).no_item behind

module _ (l : Layout) where
  abbrev pub BlockClaim : (levels : ℕ) → Type 0
  BlockClaim levels = (least indent : ℕ) (tree : Tree) (from : Rest) (tail : List Line) → IsWritableIn levels tree → BeginsAt from (block_lines l levels indent tree) tail
      → from.column ≡ indent + 1 → EndsBlock tree indent tail → Under least tail → Settled (BlockNode levels least) tree from tail

  -- ---- the first line of a node

  pub record FirstLine (indent : ℕ) (in_line : Bool) (form : trees.Tree-F Tree Pair) (lines : List Line) : Type 0 where
    pub text : List ℕ
    pub others : List Line
    pub is : lines ≡ (indent, text) ∷ others
    pub starts : Starts text
    pub item : is_item_list in_line form ≡ true → is_item text ≡ true
    pub no_item : is_item_list in_line form ≡ false → is_item text ≡ false

  -- what stands behind the `:` of a key, and on the lines below
  abbrev pub value_text : (in_line : Bool) → Tree → List ℕ
  value_text true value = spaces (suc l.behind) ++ written l.style value
  value_text false value = []

  abbrev pub value_below : (Node : ℕ → Tree → List Line) → (indent : ℕ) (in_line : Bool) → Tree → List Line
  value_below Node indent true value = []
  value_below Node indent false value = Node (indent + depth l value) value

  pub value_split : (Node : ℕ → Tree → List Line) (indent : ℕ) (key : List ℕ) (in_line : Bool) (value : Tree)
      → value_lines l Node indent key in_line value ≡ (indent, key ++ 58 ∷ value_text in_line value) ∷ value_below Node indent in_line value
  value_split Node indent key true value = refl
  value_split Node indent key false value = refl

  -- the lines of a form
  abbrev pub lines_of : (Node : ℕ → Tree → List Line) → (indent : ℕ) → (text : List ℕ) (in_line : Bool) → trees.Tree-F Tree Pair → List Line
  lines_of Node indent text in_line form = if in_line then (indent, text) ∷ [] else form_lines l Node indent form

  module _ (levels : ℕ) (first : (indent : ℕ) (tree : Tree) → IsWritableIn levels tree → FirstLine indent (is_in_line l tree) (trees.out-Tree tree) (block_lines l levels indent tree)) where
    abbrev Node : ℕ → Tree → List Line
    Node = block_lines l levels

    -- the lines of items and of entries, from the first one
    pub items_split : (indent : ℕ) (x : Tree) (xs : List Tree) (fit : IsWritableIn levels x) → flat_map (item_lines l Node indent) (x ∷ xs)
        ≡ (indent, 45 ∷ (spaces (suc l.behind) ++ (first (indent + 2 + l.behind) x fit).text)) ∷ ((first (indent + 2 + l.behind) x fit).others ++ flat_map (item_lines l Node indent) xs)
    items_split indent x xs fit =
        ap (λ (ls : List Line). behind_front indent (45 ∷ spaces (suc l.behind)) ls ++ flat_map (item_lines l Node indent) xs) (first (indent + 2 + l.behind) x fit).is

    pub entries_split : (indent : ℕ) (x : Pair) (xs : List Pair) → flat_map (entry_lines l Node indent) (x ∷ xs)
        ≡ (indent, written l.style x.key ++ 58 ∷ value_text (is_in_line l x.value) x.value) ∷ (value_below Node indent (is_in_line l x.value) x.value ++ flat_map (entry_lines l Node indent) xs)
    entries_split indent x xs =
        ap (λ (ls : List Line). ls ++ flat_map (entry_lines l Node indent) xs) (value_split Node indent (written l.style x.key) (is_in_line l x.value) x.value)

    in_line_first : (indent : ℕ) (tree : Tree) (form : trees.Tree-F Tree Pair) → FirstLine indent true form ((indent, written l.style tree) ∷ [])
    in_line_first indent tree form = record {
      text = written l.style tree;
      others = [];
      is = refl;
      starts = starts_tree l.style tree;
      item = λ e. absurd (false≢true e);
      no_item = λ e. tree_no_item l.style tree [] (written l.style tree) (sym (append-nil (written l.style tree)));
    }

    first_form : (indent : ℕ) (tree : Tree) (in_line : Bool) (form : trees.Tree-F Tree Pair) → (in_line ≡ false → form_in_line form ≡ false) → WritableForm (IsWritableIn levels) form
        → FirstLine indent in_line form (lines_of Node indent (written l.style tree) in_line form)
    first_form indent tree true form block fit = in_line_first indent tree form
    first_form indent tree false (trees.Tree-F.Scalar at text) block fit = absurd (false≢true (sym (block refl)))
    first_form indent tree false (trees.Tree-F.List at []) block fit = absurd (false≢true (sym (block refl)))
    first_form indent tree false (trees.Tree-F.List at (x ∷ xs)) block fit =
        let one = All-head (IsWritableIn levels) x xs fit in
        let sub = first (indent + 2 + l.behind) x one in
        record {
          text = 45 ∷ (spaces (suc l.behind) ++ sub.text);
          others = sub.others ++ flat_map (item_lines l Node indent) xs;
          is = items_split indent x xs one;
          starts = record { byte = 45; more = spaces (suc l.behind) ++ sub.text; is = refl; solid = record { no_blank = refl; no_comment = refl } };
          item = λ e. refl;
          no_item = λ e. absurd (false≢true (sym e));
        }
    first_form indent tree false (trees.Tree-F.Map at []) block fit = absurd (false≢true (sym (block refl)))
    first_form indent tree false (trees.Tree-F.Map at (x ∷ xs)) block fit =
        let tail : List ℕ = 58 ∷ value_text (is_in_line l x.value) x.value in
        record {
          text = written l.style x.key ++ tail;
          others = value_below Node indent (is_in_line l x.value) x.value ++ flat_map (entry_lines l Node indent) xs;
          is = entries_split indent x xs;
          starts = starts_with (written l.style x.key) tail (starts_tree l.style x.key);
          item = λ e. absurd (false≢true e);
          no_item = λ e. tree_no_item l.style x.key tail (written l.style x.key ++ tail) refl;
        }

  pub first_line : (levels indent : ℕ) (tree : Tree) → IsWritableIn levels tree → FirstLine indent (is_in_line l tree) (trees.out-Tree tree) (block_lines l levels indent tree)
  unfolding IsWritableIn block_lines
  first_line zero indent tree fit = absurd fit
  first_line (suc levels) indent tree fit = first_form levels (first_line levels) indent tree (is_in_line l tree) (trees.out-Tree tree) (no_line l tree) fit
