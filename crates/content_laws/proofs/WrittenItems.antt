-- Lists in block style, item by item.
use Rattle.std.proofs.Common.{◌≡◌, ℕ, suc, ◌+◌, ◌-◌, ◌<◌, Bool, true, false, not, ◌&&◌, ◌==◌, List, [], ◌∷◌, ◌++◌, drop, Option, None, Some, Ok, ◌⊎◌, inl, inr, refl, sym, ap, ◌∙◌, subst, append_assoc, arith}
use Rattle.std.specs.Prelude.{MatchBool}
use Rattle.std.specs.List.{All, flat_map, prefix_len}
use Rattle.std.proofs.lemmas.Bool.{cond-true, cond-false, eq-eqb, ne_eqb}
use Rattle.std.proofs.lemmas.List.Elements.{All-head, All-tail}
use Rattle.dp_base.specs.Bytes.{is_blank}
use Rattle.dp_base.specs.declared.place.Place.{Place}
use Rattle.yaml_tree.specs.Rest.{Row, Rest, place, on, skip_blanks, front}
use Rattle.yaml_tree.specs.Characters.{is_item, is_clear}
use Rattle.yaml_tree.specs.Lines.{is_marker}
use Rattle.yaml_tree.specs.Repeats.{Repeats}
use Rattle.yaml_tree.specs.Blocks.{Item, item_in, item_then, ItemTurn, BlockList, BlockNode}
use Rattle.yaml_tree.specs.declared.tree.Tree.{Tree}
use Rattle.yaml_tree.specs.declared.tree.Tree as trees
use Rattle.yaml_tree.specs.declared.tree.Tree.TheVariants as made
use Rattle.yaml_tree.proofs.BaseText.{MatchBool-no}
use Rattle.content_laws.specs.Writing.{spaces, IsWritableIn}
use Rattle.content_laws.specs.BlockWriting.{Layout, Line, is_in_line, item_lines, block_lines}
use Rattle.content_laws.proofs.WrittenBlanks.{past_blanks, past_spaces, past_solid, not_clear, blanks_count}
use Rattle.content_laws.proofs.WrittenCodes.{tree_codes, list_codes, listed_codes}
use Rattle.content_laws.proofs.WrittenRows.{IsRow, AreRows, FirstRow, Stands, InTurns, last_turn, more_turns, all_turns, Under, UnderOrKey, under_deeper}
use Rattle.content_laws.proofs.WrittenBlocks.{BeginsAt, Settled, EndsBlock, ends_under, BlockClaim, FirstLine, first_line, items_split}

pub MatchBool-yes : (b : Bool) (P Q : Type 0) → b ≡ true → P → MatchBool b P Q
MatchBool-yes b P Q e p = let R : Bool → Type 0 = λ x. MatchBool x P Q in subst R (sym e) p

first_false : (a b c : Bool) → b ≡ false → (a && b && c) ≡ false
first_false true b c e = ap (λ (x : Bool). true && x && c) e
first_false false b c e = ap (λ (x : Bool). false && x && c) e

pub last_false : (a b c : Bool) → c ≡ false → (a && b && c) ≡ false
last_false true true c e = e
last_false true false c e = refl
last_false false true c e = refl
last_false false false c e = refl

-- ---- after an item

ends_row : (indent : ℕ) (left : Rest) (row : Row) (rows : List Row) (line : Line) → IsRow row line → (line.0 < indent) ⊎ ((line.0 ≡ indent) × (is_item line.1 ≡ false)) → item_in indent left (row ∷ rows) ≡ None
ends_row indent left row rows line is (inl under) =
    cond-false (not (is_marker row) && row.indent == indent && is_item row.text) _ _
    (first_false (not (is_marker row)) (row.indent == indent) (is_item row.text) (ne_eqb row.indent indent (λ e. omega (arith, is.indent))))
ends_row indent left row rows line is (inr key) =
    cond-false (not (is_marker row) && row.indent == indent && is_item row.text) _ _
    (last_false (not (is_marker row)) (row.indent == indent) (is_item row.text) (ap is_item is.text ∙ key.1))

no_item_in : (indent : ℕ) (left : Rest) (rows : List Row) (tail : List Line) → Stands rows tail → UnderOrKey indent tail → item_in indent left rows ≡ None
no_item_in indent left rows [] are under = ap (item_in indent left) are
no_item_in indent left rows (line ∷ tail) are under = ap (item_in indent left) are.is ∙ ends_row indent left are.row are.others line are.row_is under

item_in_row : (indent : ℕ) (left : Rest) (row : Row) (rows : List Row) (line : Line) → IsRow row line → line.0 ≡ indent → is_item line.1 ≡ true → item_in indent left (row ∷ rows) ≡ Some (front left row rows)
item_in_row indent left row rows line is here item =
    cond-true (not (is_marker row) && row.indent == indent && is_item row.text) _ _
    (λ i. not (is.no_marker i) && eq-eqb row.indent indent (is.indent ∙ here) i && (ap is_item is.text ∙ item) i)

module _ (l : Layout) (levels : ℕ) (claim : BlockClaim l levels) where
  abbrev Node : ℕ → Tree → List Line
  Node = block_lines l levels

  abbrev lines : (indent : ℕ) → List Tree → List Line
  lines indent xs = flat_map (item_lines l Node indent) xs

  -- what follows an item stands less deep
  rest_under : (indent deeper : ℕ) (xs : List Tree) (tail : List Line) → indent < deeper → All (IsWritableIn levels) xs → UnderOrKey indent tail → Under deeper (lines indent xs ++ tail)
  rest_under indent deeper [] tail less fit under = under_deeper indent deeper tail less under
  rest_under indent deeper (x ∷ xs) tail less fit under =
      subst (λ (ls : List Line). Under deeper (ls ++ tail)) (sym (items_split l levels (first_line l levels) indent x xs (All-head (IsWritableIn levels) x xs fit))) less

  record ItemRead (indent : ℕ) (x : Tree) (from : Rest) (tail : List Line) : Type 0 where
    read : Tree
    left : Rest
    item : Item (BlockNode levels) levels indent (on 1 from) (Ok (read, left))
    below : Stands left.below tail
    same : tree_codes x ≡ tree_codes read

  -- the node behind `-`
  behind_dash : (indent : ℕ) (x : Tree) (others : List Line) (from : Rest) (tail : List Line) (first : FirstLine l (indent + 2 + l.behind) (is_in_line l x) (trees.out-Tree x) (Node (indent + 2 + l.behind) x)) → IsWritableIn levels x
      → from.here ≡ 45 ∷ (spaces (suc l.behind) ++ first.text) → AreRows from.below ((first.others ++ others) ++ tail) → from.column ≡ indent + 1 → EndsBlock x (indent + 2 + l.behind) (others ++ tail) → Under (indent + 1) (others ++ tail) → ItemRead indent x from (others ++ tail)
  behind_dash indent x others from tail first fit here rows column ends under =
      let inside : drop 1 from.here ≡ spaces (suc l.behind) ++ first.text = ap (drop 1) here in
      let past : past_blanks (drop 1 from.here) ≡ first.text =
      ap past_blanks inside ∙ past_spaces (suc l.behind) first.text ∙ ap past_blanks first.starts.is ∙ past_solid first.starts.byte first.starts.more first.starts.solid ∙ sym first.starts.is in
      let count : prefix_len is_blank (drop 1 from.here) ≡ suc l.behind = ap (prefix_len is_blank) inside ∙ blanks_count (suc l.behind) first.text first.starts.byte first.starts.more first.starts.is first.starts.solid in
      let nested : Rest = skip_blanks (on 1 from) in
      let deeper : nested.column ≡ indent + 2 + l.behind + 1 = omega (arith, count) in
      let begun : BeginsAt nested (Node (indent + 2 + l.behind) x) (others ++ tail) =
      subst (λ (ls : List Line). BeginsAt nested ls (others ++ tail)) (sym first.is)
      (past, subst (AreRows from.below) (append_assoc first.others others tail) rows) in
      let one = claim (indent + 1) (indent + 2 + l.behind) x nested (others ++ tail) fit begun deeper ends under in
      record {
        read = one.read;
        left = one.left;
        item = MatchBool-no (is_clear (drop 1 from.here)) _ _ (not_clear (drop 1 from.here) first.starts.byte first.starts.more first.starts.solid (past ∙ first.starts.is)) one.node;
        below = one.below;
        same = one.same;
      }

  item_read : (indent : ℕ) (x : Tree) (xs : List Tree) (from : Rest) (tail : List Line) → IsWritableIn levels x → All (IsWritableIn levels) xs → BeginsAt from (lines indent (x ∷ xs)) tail
      → from.column ≡ indent + 1 → UnderOrKey indent tail → ItemRead indent x from (lines indent xs ++ tail)
  item_read indent x xs from tail fit fits begun column under =
      let first = first_line l levels (indent + 2 + l.behind) x fit in
      let split = subst (λ (ls : List Line). BeginsAt from ls tail) (items_split l levels (first_line l levels) indent x xs fit) begun in
      behind_dash indent x (lines indent xs) from tail first fit split.0 split.1 column
      (ends_under (trees.out-Tree x) (indent + 2 + l.behind) (lines indent xs ++ tail) (rest_under indent (indent + 2 + l.behind) xs tail (omega arith) fits under))
      (rest_under indent (indent + 1) xs tail (omega arith) fits under)

  abbrev Turns : (indent : ℕ) (tail : List Line) (before xs : List Tree) → Rest → Type 0
  Turns indent tail before xs from = InTurns tree_codes (ItemTurn (BlockNode levels) levels indent) (λ left. Stands left.below tail) before xs from

  turn_read : (indent : ℕ) (x : Tree) (before : List Tree) (from : Rest) (tail : List Line) (one : ItemRead indent x from tail) (found : Option Rest) → item_in indent one.left one.left.below ≡ found
      → ItemTurn (BlockNode levels) levels indent before from (item_then one.read one.left found)
  turn_read indent x before from tail one found is = (Ok (one.read, one.left), one.item, sym (ap (item_then one.read one.left) is))

  pub item_turns : (indent : ℕ) (x : Tree) (xs before : List Tree) (from : Rest) (tail : List Line) → IsWritableIn levels x → All (IsWritableIn levels) xs → BeginsAt from (lines indent (x ∷ xs)) tail
      → from.column ≡ indent + 1 → UnderOrKey indent tail → Turns indent tail before (x ∷ xs) from
  item_turns indent x [] before from tail fit fits begun column under =
      let one = item_read indent x [] from tail fit fits begun column under in
      last_turn tree_codes (ItemTurn (BlockNode levels) levels indent) (λ left. Stands left.below tail) before x one.read from one.left
      (turn_read indent x before from tail one None (no_item_in indent one.left one.left.below tail one.below under)) one.below one.same
  item_turns indent x (y ∷ ys) before from tail fit fits begun column under =
      let one = item_read indent x (y ∷ ys) from tail fit fits begun column under in
      let next_fit = All-head (IsWritableIn levels) y ys fits in
      let next_first = first_line l levels (indent + 2 + l.behind) y next_fit in
      let text : List ℕ = 45 ∷ (spaces (suc l.behind) ++ next_first.text) in
      let others : List Line = next_first.others ++ lines indent ys in
      let split : lines indent (y ∷ ys) ≡ (indent, text) ∷ others = items_split l levels (first_line l levels) indent y ys next_fit in
      let rows : FirstRow one.left.below (indent, text) (others ++ tail) = subst (λ (ls : List Line). Stands one.left.below (ls ++ tail)) split one.below in
      let next : Rest = front one.left rows.row rows.others in
      let there : item_in indent one.left one.left.below ≡ Some next =
      ap (item_in indent one.left) rows.is ∙ item_in_row indent one.left rows.row rows.others (indent, text) rows.row_is refl refl in
      let next_begun : BeginsAt next (lines indent (y ∷ ys)) tail = subst (λ (ls : List Line). BeginsAt next ls tail) (sym split) (rows.row_is.text, rows.others_are) in
      more_turns tree_codes (ItemTurn (BlockNode levels) levels indent) (λ left. Stands left.below tail) before x one.read (y ∷ ys) from next
      (turn_read indent x before from (lines indent (y ∷ ys) ++ tail) one (Some next) there) one.same
      (item_turns indent y ys (before ++ one.read ∷ []) next tail next_fit (All-tail (IsWritableIn levels) y ys fits) next_begun (ap (λ (k : ℕ). k + 1) rows.row_is.indent) under)

  -- ---- the list

  pub list_node : (least indent : ℕ) (tree : Tree) (at : Place) (x : Tree) (xs : List Tree) (from : Rest) (tail : List Line) → trees.out-Tree tree ≡ trees.Tree-F.List at (x ∷ xs) → All (IsWritableIn levels) (x ∷ xs)
      → BeginsAt from (lines indent (x ∷ xs)) tail → from.column ≡ indent + 1 → UnderOrKey indent tail → Settled (BlockNode (suc levels) least) tree from tail
  list_node least indent tree at x xs from tail is fits begun column under =
      let fit = All-head (IsWritableIn levels) x xs fits in
      let all = item_turns indent x xs [] from tail fit (All-tail (IsWritableIn levels) x xs fits) begun column under in
      let items : List Tree = all.read ++ all.last ∷ [] in
      let same_indent : indent ≡ from.column - 1 = omega (arith, column) in
      let split = subst (λ (ls : List Line). BeginsAt from ls tail) (items_split l levels (first_line l levels) indent x xs fit) begun in
      let repeats : Repeats (ItemTurn (BlockNode levels) levels indent) from (Ok (items, all.left)) =
      all_turns tree_codes (ItemTurn (BlockNode levels) levels indent) (λ left. Stands left.below tail) (x ∷ xs) from all in
      let whole : BlockList (BlockNode levels) levels from (Ok (made.List (place from) items, all.left)) =
      (Ok (items, all.left), subst (λ (k : ℕ). Repeats (ItemTurn (BlockNode levels) levels k) from (Ok (items, all.left))) same_indent repeats, refl) in
      record {
        read = made.List (place from) items;
        left = all.left;
        node = MatchBool-yes (is_item from.here) _ _ (ap is_item split.0) whole;
        below = all.fine;
        same = listed_codes tree at (x ∷ xs) is ∙ ap list_codes all.same ∙ sym (listed_codes (made.List (place from) items) (place from) items (made.outs-List (place from) items));
      }
