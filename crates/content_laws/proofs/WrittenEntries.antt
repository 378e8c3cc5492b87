-- Maps in block style, entry by entry.
use Rattle.std.proofs.Common.{◌≡◌, ℕ, zero, suc, ◌+◌, ◌-◌, ◌<◌, Bool, true, false, not, ◌&&◌, ◌||◌, ◌==◌, nat_lt, List, [], ◌∷◌, ◌++◌, drop, map, Option, None, Some, Ok, inl, inr, refl, sym, ap, ◌∙◌, subst, append_assoc, append-nil, arith}
use Rattle.std.specs.List.{flat_map}
use Rattle.std.proofs.lemmas.Bool.{cond-true, cond-false, eq-eqb, ne_eqb, lt-ltb, false≢true}
use Rattle.std.proofs.Math.Bool.{and-false}
use Rattle.dp_base.specs.declared.place.Place.{Place}
use Rattle.yaml_tree.specs.Rest.{Row, Rest, place, on, skip_blanks, front}
use Rattle.yaml_tree.specs.Characters.{begins_flow_mark, ends_scalar, ends_word, is_item, is_colon, is_clear}
use Rattle.yaml_tree.specs.Lines.{from_content, is_marker, settle}
use Rattle.yaml_tree.specs.Openings.{quote_opening, opening_of, opening}
use Rattle.yaml_tree.specs.Keys.{stands_before}
use Rattle.yaml_tree.specs.Repeats.{Turn, More, Last, Repeats}
use Rattle.yaml_tree.specs.Flow.{entry, Form}
use Rattle.yaml_tree.specs.Blocks.{begins_below, node_in, BelowOf, Value, entry_in, NextEntry, EntryTurn, BlockMap, may_be_block_key, is_block_key, FirstKey, BlockNode}
use Rattle.yaml_tree.specs.declared.tree.Tree.{Tree}
use Rattle.yaml_tree.specs.declared.tree.Tree as trees
use Rattle.yaml_tree.specs.declared.tree.Tree.TheVariants as made
use Rattle.yaml_tree.specs.declared.tree.Pair.{Pair}
use Rattle.yaml_tree.proofs.BaseText.{MatchBool-no}
use Rattle.content_laws.specs.Writing.{Style, scalar_by, stands_plain, spaces, written, NoMapForm, IsNoMap, IsWritableIn}
use Rattle.content_laws.specs.BlockWriting.{Layout, Line, form_in_line, is_in_line, form_depth, depth, entry_lines, block_lines}
use Rattle.content_laws.proofs.WrittenBlanks.{IsSolid, past_blanks, past_spaces, past_solid, not_clear}
use Rattle.content_laws.proofs.WrittenPlain.{stop_colon}
use Rattle.content_laws.proofs.WrittenScalars.{closes, split_quotes}
use Rattle.content_laws.proofs.WrittenCodes.{tree_codes, pair_codes, map_codes, mapped_codes, stands_alike, no_deep_place, one_level_more}
use Rattle.content_laws.proofs.WrittenTurns.{AllFit, map-push}
use Rattle.content_laws.proofs.WrittenForms.{its_plain, written_form, written-form, starts_tree, reads_back, FitsEntry}
use Rattle.content_laws.proofs.WrittenNodes.{whole_read, line_read}
use Rattle.content_laws.proofs.WrittenRows.{IsRow, AreRows, FirstRow, Stands, settle_rows, InTurns, last_turn, more_turns, all_turns, Under, UnderOrKey, under_or_key, under_deeper}
use Rattle.content_laws.proofs.WrittenBlocks.{no_line, BeginsAt, Settled, EndsForm, BlockClaim, first_line, entries_split, value_text, value_below, is_item_list, tree_no_item}
use Rattle.content_laws.proofs.WrittenItems.{MatchBool-yes}

or_true : (b : Bool) → (b || true) ≡ true
or_true true = refl
or_true false = refl

-- ---- after a value

no_entry_in : (indent : ℕ) (left : Rest) (rows : List Row) (tail : List Line) → Stands rows tail → Under indent tail → entry_in indent left rows ≡ None
no_entry_in indent left rows [] are under = ap (entry_in indent left) are
no_entry_in indent left rows (line ∷ tail) are under =
    ap (entry_in indent left) are.is
    ∙ cond-false (not (is_marker are.row) && are.row.indent == indent) _ _
    (ap (λ (b : Bool). not (is_marker are.row) && b) (ne_eqb are.row.indent indent (λ e. omega (arith, are.row_is.indent))) ∙ and-false (not (is_marker are.row)))

entry_in_row : (indent : ℕ) (left : Rest) (row : Row) (rows : List Row) (line : Line) → IsRow row line → line.0 ≡ indent → entry_in indent left (row ∷ rows) ≡ Some (front left row rows)
entry_in_row indent left row rows line is here =
    cond-true (not (is_marker row) && row.indent == indent) _ _
    (λ i. not (is.no_marker i) && eq-eqb row.indent indent (is.indent ∙ here) i)

-- ---- keys

module _ (s : Style) where
  -- a form may be a key
  may_scalar : (text : List ℕ) (b ragged one_line : Bool) (here behind : List ℕ) → stands_plain s text ≡ b → here ≡ scalar_by b text ++ behind → may_be_block_key (opening_of false true ragged here) one_line ≡ true
  may_scalar text true ragged one_line here behind plain is =
      ap (λ (h : List ℕ). may_be_block_key (opening_of false true ragged h) one_line) is
      ∙ ap (λ o. may_be_block_key o one_line) ((its_plain s text plain).opens false true ragged behind)
  may_scalar text false ragged one_line here behind plain is =
      ap (λ (h : List ℕ). may_be_block_key (opening_of false true ragged h) one_line) (is ∙ split_quotes text behind)
      ∙ ap (λ (o : Option (List ℕ)). may_be_block_key (quote_opening false o) one_line) (closes text behind)

  may_form : (form : trees.Tree-F Tree Pair) (ragged one_line : Bool) (here behind : List ℕ) → NoMapForm form → here ≡ written_form s form ++ behind → one_line ≡ true → may_be_block_key (opening_of false true ragged here) one_line ≡ true
  may_form (trees.Tree-F.Scalar at text) ragged one_line here behind no_map is line = may_scalar text (stands_plain s text) ragged one_line here behind refl is
  may_form (trees.Tree-F.List at items) ragged one_line here behind no_map is line = ap (λ (h : List ℕ). may_be_block_key (opening_of false true ragged h) one_line) is ∙ line
  may_form (trees.Tree-F.Map at entries) ragged one_line here behind no_map is line = absurd no_map

  -- a key was read, and its `:` follows
  record KeyRead (maps : Bool) (levels : ℕ) (key : Tree) (from : Rest) (rest : List ℕ) : Type 0 where
    read : Tree
    to : Rest
    form : Form false maps levels from (Ok (read, to))
    line : (from.line == to.line) ≡ true
    colon : is_colon (skip_blanks to).here ≡ true
    here : (on 1 (skip_blanks to)).here ≡ rest
    below : to.below ≡ from.below
    same : tree_codes key ≡ tree_codes read

  key_read : (maps : Bool) (levels : ℕ) (key : Tree) (from : Rest) (rest : List ℕ) → IsWritableIn levels key → IsNoMap key → from.here ≡ written s key ++ 58 ∷ rest → ends_word rest ≡ true → KeyRead maps levels key from rest
  key_read maps levels key from rest fit no_map is follows =
      let ends : ends_scalar false rest ≡ true = ap (λ (b : Bool). b || (false && begins_flow_mark rest)) follows in
      let one = reads_back s levels false maps key from (58 ∷ rest) fit (λ e. no_map) (λ e. stop_colon false rest ends) is in
      let colon_solid : IsSolid 58 = record { no_blank = refl; no_comment = refl } in
      let past : past_blanks one.left.here ≡ 58 ∷ rest = ap past_blanks one.here ∙ past_solid 58 rest colon_solid in
      record {
        read = one.read;
        to = one.left;
        form = one.form;
        line = eq-eqb from.line one.left.line (sym one.line);
        colon = ap is_colon past ∙ follows;
        here = ap (drop 1) past;
        below = one.below;
        same = one.same;
      }

module _ (l : Layout) (levels : ℕ) (claim : BlockClaim l levels) where
  abbrev Node : ℕ → Tree → List Line
  Node = block_lines l levels

  abbrev lines : (indent : ℕ) → List Pair → List Line
  lines indent xs = flat_map (entry_lines l Node indent) xs

  -- ---- values

  -- what stands behind `:` ends the key
  ends_key : (in_line : Bool) (value : Tree) → ends_word (value_text l in_line value) ≡ true
  ends_key true value = refl
  ends_key false value = refl

  record ValueRead (indent : ℕ) (value : Tree) (at : Rest) (tail : List Line) : Type 0 where
    read : Tree
    left : Rest
    form : Value (BlockNode levels) levels indent at (Ok (read, left))
    below : Stands left.below tail
    same : tree_codes value ≡ tree_codes read

  -- in the line of its key
  value_in_line : (indent : ℕ) (value : Tree) (at : Rest) (tail : List Line) → IsWritableIn levels value → at.here ≡ spaces (suc l.behind) ++ written l.style value → AreRows at.below tail → Under (indent + 1) tail → ValueRead indent value at tail
  value_in_line indent value at tail fit here rows under =
      let s = starts_tree l.style value in
      let past : past_blanks at.here ≡ s.byte ∷ s.more = ap past_blanks here ∙ past_spaces (suc l.behind) (written l.style value) ∙ ap past_blanks s.is ∙ past_solid s.byte s.more s.solid in
      let from : Rest = skip_blanks at in
      let one = whole_read l.style levels (indent + 1) value from tail fit (past ∙ sym s.is) rows under in
      let left_rows : AreRows one.left.below tail = subst (λ (rs : List Row). AreRows rs tail) (sym one.below) rows in
      record {
        read = one.read;
        left = settle one.left;
        form = MatchBool-no (is_clear at.here) _ _ (not_clear at.here s.byte s.more s.solid past) (line_read l.style levels (indent + 1) value from one);
        below = settle_rows one.left.below tail left_rows;
        same = one.same;
      }

  -- a list or a map begins in a line below
  deeper_row : (indent : ℕ) (row : Row) (line : Line) → IsRow row line → indent < line.0 → begins_below indent true row ≡ true
  deeper_row indent row line is deeper =
      λ i. not (is.no_marker i) && (lt-ltb indent row.indent (omega (arith, is.indent)) i || (true && row.indent == indent && is_item row.text))

  level_row : (indent : ℕ) (row : Row) (line : Line) → IsRow row line → line.0 ≡ indent → is_item line.1 ≡ true → begins_below indent true row ≡ true
  level_row indent row line is here item =
      (λ i. not (is.no_marker i) && (nat_lt indent row.indent || (true && eq-eqb row.indent indent (is.indent ∙ here) i && (ap is_item is.text ∙ item) i)))
      ∙ or_true (nat_lt indent row.indent)

  begins_there : (indent : ℕ) (form : trees.Tree-F Tree Pair) (row : Row) (text : List ℕ) → form_in_line form ≡ false → IsRow row (indent + form_depth l form, text) → (is_item_list false form ≡ true → is_item text ≡ true)
      → begins_below indent true row ≡ true
  begins_there indent (trees.Tree-F.Scalar at scalar) row text below is item = absurd (false≢true (sym below))
  begins_there indent (trees.Tree-F.List at []) row text below is item = absurd (false≢true (sym below))
  begins_there indent (trees.Tree-F.List at (x ∷ xs)) row text below is item = list_there l.lists is where
    list_there : (j : ℕ) → IsRow row (indent + j, text) → begins_below indent true row ≡ true
    list_there zero is = level_row indent row (indent + 0, text) is (omega arith) (item refl)
    list_there (suc j) is = deeper_row indent row (indent + suc j, text) is (omega arith)
  begins_there indent (trees.Tree-F.Map at []) row text below is item = absurd (false≢true (sym below))
  begins_there indent (trees.Tree-F.Map at (x ∷ xs)) row text below is item = deeper_row indent row (indent + suc l.maps, text) is (omega arith)

  ends_value : (indent : ℕ) (form : trees.Tree-F Tree Pair) (tail : List Line) → UnderOrKey indent tail → EndsForm form (indent + form_depth l form) tail
  ends_value indent (trees.Tree-F.Scalar at text) tail under = tt
  ends_value indent (trees.Tree-F.List at items) tail under = list_ends l.lists tail under where
    list_ends : (j : ℕ) (tail : List Line) → UnderOrKey indent tail → UnderOrKey (indent + j) tail
    list_ends j [] under = tt
    list_ends j (line ∷ tail) (inl less) = inl (omega arith)
    list_ends zero (line ∷ tail) (inr key) = inr ((omega (arith, key.0)), key.1)
    list_ends (suc j) (line ∷ tail) (inr key) = inl (omega (arith, key.0))
  ends_value indent (trees.Tree-F.Map at entries) tail under = map_ends tail under where
    map_ends : (tail : List Line) → UnderOrKey indent tail → Under (indent + suc l.maps) tail
    map_ends [] under = tt
    map_ends (line ∷ tail) (inl less) = omega arith
    map_ends (line ∷ tail) (inr key) = omega (arith, key.0)

  value_from_below : (indent : ℕ) (value : Tree) (at : Rest) (tail : List Line) → IsWritableIn levels value → is_in_line l value ≡ false → at.here ≡ [] → AreRows at.below (Node (indent + depth l value) value ++ tail)
      → UnderOrKey indent tail → ValueRead indent value at tail
  value_from_below indent value at tail fit below here rows under =
      let deep : ℕ = indent + depth l value in
      let first = first_line l levels deep value fit in
      let split : AreRows at.below ((deep, first.text) ∷ (first.others ++ tail)) = subst (λ (ls : List Line). AreRows at.below (ls ++ tail)) first.is rows in
      let found : FirstRow (from_content at.below) (deep, first.text) (first.others ++ tail) = settle_rows at.below ((deep, first.text) ∷ (first.others ++ tail)) split in
      let from : Rest = front at found.row found.others in
      let begun : BeginsAt from (Node deep value) tail = subst (λ (ls : List Line). BeginsAt from ls tail) (sym first.is) (found.row_is.text, found.others_are) in
      let one = claim (indent + 1) deep value from tail fit begun (ap (λ (k : ℕ). k + 1) found.row_is.indent) (ends_value indent (trees.out-Tree value) tail under) (under_deeper indent (indent + 1) tail (omega arith) under) in
      let there : node_in indent true at (from_content at.below) ≡ Some from =
      ap (node_in indent true at) found.is
      ∙ cond-true (begins_below indent true found.row) _ _ (begins_there indent (trees.out-Tree value) found.row first.text (no_line l value below) found.row_is (λ e. first.item (ap (λ (b : Bool). is_item_list b (trees.out-Tree value)) below ∙ e))) in
      record {
        read = one.read;
        left = one.left;
        form = MatchBool-yes (is_clear at.here) _ _ (ap is_clear here)
            (subst (λ (o : Option Rest). BelowOf (BlockNode levels) levels indent at o (Ok (one.read, one.left))) (sym there) one.node);
        below = one.below;
        same = one.same;
      }

  value_by : (in_line : Bool) (indent : ℕ) (value : Tree) (at : Rest) (tail : List Line) → is_in_line l value ≡ in_line → IsWritableIn levels value → at.here ≡ value_text l in_line value
      → AreRows at.below (value_below l Node indent in_line value ++ tail) → UnderOrKey indent tail → ValueRead indent value at tail
  value_by true indent value at tail is fit here rows under = value_in_line indent value at tail fit here rows (under_deeper indent (indent + 1) tail (omega arith) under)
  value_by false indent value at tail is fit here rows under = value_from_below indent value at tail fit is here rows under

  -- ---- turns

  abbrev Turn_of : (indent : ℕ) → List Pair → Tree × Rest → Turn Pair (Tree × Rest) → Type 0
  Turn_of indent = EntryTurn (BlockNode levels) levels indent

  abbrev Turns : (indent : ℕ) (tail : List Line) (before xs : List Pair) → Tree × Rest → Type 0
  Turns indent tail before xs keyed = InTurns pair_codes (Turn_of indent) (λ left. Stands left.below tail) before xs keyed

  others_under : (indent : ℕ) (xs : List Pair) (tail : List Line) → Under indent tail → UnderOrKey indent (lines indent xs ++ tail)
  others_under indent [] tail under = under_or_key indent tail under
  others_under indent (y ∷ ys) tail under =
      let text : List ℕ = 58 ∷ value_text l (is_in_line l y.value) y.value in
      let no_item : is_item (written l.style y.key ++ text) ≡ false = tree_no_item l.style y.key text (written l.style y.key ++ text) refl in
      subst (λ (ls : List Line). UnderOrKey indent (ls ++ tail)) (sym (entries_split l levels (first_line l levels) indent y ys)) (inr (refl, no_item))

  turn_by : (indent : ℕ) (before : List Pair) (key value : Tree) (at : Rest) (tail : List Line) (one : ValueRead indent value at tail) (found : Option Rest) (turn : Turn Pair (Tree × Rest))
      → entry_in indent one.left one.left.below ≡ found → NextEntry levels before (entry key one.read) one.left found turn → Turn_of indent before (key, at) turn
  turn_by indent before key value at tail one found turn is next =
      (Ok (one.read, one.left), one.form, subst (λ (o : Option Rest). NextEntry levels before (entry key one.read) one.left o turn) (sym is) next)

  -- the key of the next entry
  next_key : (before earlier : List Pair) (pair : Pair) (left from : Rest) (key : Tree) (rest : List ℕ) (one : KeyRead l.style false levels key from rest)
      → map pair_codes (before ++ pair ∷ []) ≡ map pair_codes earlier → stands_before key earlier ≡ false → NextEntry levels before pair left (Some from) (More pair (one.read, on 1 (skip_blanks one.to)))
  next_key before earlier pair left from key rest one known fresh =
      let other : stands_before one.read (before ++ pair ∷ []) ≡ false = stands_alike key one.read (before ++ pair ∷ []) earlier one.same known ∙ fresh in (
        Ok (one.read, one.to),
        one.form,
        sym (cond-false (stands_before one.read (before ++ pair ∷ [])) _ _ other
            ∙ cond-true (from.line == one.to.line && is_colon (skip_blanks one.to).here) _ _ (λ i. one.line i && one.colon i)),
      )

  pub entry_turns : (indent : ℕ) (x : Pair) (xs earlier before : List Pair) (key : Tree) (at : Rest) (tail : List Line) → map pair_codes before ≡ map pair_codes earlier → tree_codes x.key ≡ tree_codes key
      → AllFit (FitsEntry levels) earlier (x ∷ xs) → at.here ≡ value_text l (is_in_line l x.value) x.value → AreRows at.below ((value_below l Node indent (is_in_line l x.value) x.value ++ lines indent xs) ++ tail)
      → Under indent tail → Turns indent tail before (x ∷ xs) (key, at)
  entry_turns indent x [] earlier before key at tail known same_key fit here rows under =
      let below : List Line = value_below l Node indent (is_in_line l x.value) x.value in
      let value_rows : AreRows at.below (below ++ tail) = subst (λ (ls : List Line). AreRows at.below (ls ++ tail)) (append-nil below) rows in
      let one = value_by (is_in_line l x.value) indent x.value at tail refl fit.0.1.2 here value_rows (under_or_key indent tail under) in
      last_turn pair_codes (Turn_of indent) (λ left. Stands left.below tail) before x (entry key one.read) (key, at) one.left
      (turn_by indent before key x.value at tail one None (Last (entry key one.read ∷ []) one.left) (no_entry_in indent one.left one.left.below tail one.below under) refl)
      one.below (λ i. (same_key i, one.same i))
  entry_turns indent x (y ∷ ys) earlier before key at tail known same_key fit here rows under =
      let below : List Line = value_below l Node indent (is_in_line l x.value) x.value in
      let value_rows : AreRows at.below (below ++ (lines indent (y ∷ ys) ++ tail)) = subst (AreRows at.below) (append_assoc below (lines indent (y ∷ ys)) tail) rows in
      let one = value_by (is_in_line l x.value) indent x.value at (lines indent (y ∷ ys) ++ tail) refl fit.0.1.2 here value_rows (others_under indent (y ∷ ys) tail under) in
      let rest : List ℕ = value_text l (is_in_line l y.value) y.value in
      let text : List ℕ = written l.style y.key ++ 58 ∷ rest in
      let others : List Line = value_below l Node indent (is_in_line l y.value) y.value ++ lines indent ys in
      let split : lines indent (y ∷ ys) ≡ (indent, text) ∷ others = entries_split l levels (first_line l levels) indent y ys in
      let found : FirstRow one.left.below (indent, text) (others ++ tail) = subst (λ (ls : List Line). Stands one.left.below (ls ++ tail)) split one.below in
      let from : Rest = front one.left found.row found.others in
      let there : entry_in indent one.left one.left.below ≡ Some from = ap (entry_in indent one.left) found.is ∙ entry_in_row indent one.left found.row found.others (indent, text) found.row_is refl in
      let next = key_read l.style false levels y.key from rest fit.1.0.1.0 fit.1.0.1.1 found.row_is.text (ends_key (is_in_line l y.value) y.value) in
      let pair : Pair = entry key one.read in
      let known_more : map pair_codes (before ++ pair ∷ []) ≡ map pair_codes (earlier ++ x ∷ []) =
      map-push pair_codes before pair ∙ (λ i. known i ++ (sym same_key i, sym one.same i) ∷ []) ∙ sym (map-push pair_codes earlier x) in
      let next_rows : AreRows next.to.below (others ++ tail) = subst (λ (rs : List Row). AreRows rs (others ++ tail)) (sym next.below) found.others_are in
      more_turns pair_codes (Turn_of indent) (λ left. Stands left.below tail) before x pair (y ∷ ys) (key, at) (next.read, on 1 (skip_blanks next.to))
      (turn_by indent before key x.value at (lines indent (y ∷ ys) ++ tail) one (Some from) (More pair (next.read, on 1 (skip_blanks next.to))) there
      (next_key before (earlier ++ x ∷ []) pair one.left from y.key rest next known_more fit.1.0.0))
      (λ i. (same_key i, one.same i))
      (entry_turns indent y ys (earlier ++ x ∷ []) (before ++ pair ∷ []) next.read (on 1 (skip_blanks next.to)) tail known_more next.same fit.1 next.here next_rows under)

  -- ---- the map

  pub map_node : (least indent : ℕ) (tree : Tree) (at : Place) (x : Pair) (xs : List Pair) (from : Rest) (tail : List Line) → trees.out-Tree tree ≡ trees.Tree-F.Map at (x ∷ xs) → AllFit (FitsEntry levels) [] (x ∷ xs)
      → BeginsAt from (lines indent (x ∷ xs)) tail → from.column ≡ indent + 1 → Under indent tail → Settled (BlockNode (suc levels) least) tree from tail
  map_node least indent tree at x xs from tail is fit begun_at column under =
      let rest : List ℕ = value_text l (is_in_line l x.value) x.value in
      let split = subst (λ (ls : List Line). BeginsAt from ls tail) (entries_split l levels (first_line l levels) indent x xs) begun_at in
      let one = key_read l.style true (suc levels) x.key from rest (one_level_more levels x.key fit.0.1.0) fit.0.1.1 split.0 (ends_key (is_in_line l x.value) x.value) in
      let behind : Rest = on 1 (skip_blanks one.to) in
      let rows : AreRows one.to.below ((value_below l Node indent (is_in_line l x.value) x.value ++ lines indent xs) ++ tail) =
      subst (λ (rs : List Row). AreRows rs ((value_below l Node indent (is_in_line l x.value) x.value ++ lines indent xs) ++ tail)) (sym one.below) split.1 in
      let all = entry_turns indent x xs [] [] one.read behind tail refl one.same fit one.here rows under in
      let entries : List Pair = all.read ++ all.last ∷ [] in
      let same_indent : indent ≡ from.column - 1 = omega (arith, column) in
      let repeats : Repeats (Turn_of indent) (one.read, behind) (Ok (entries, all.left)) =
      all_turns pair_codes (Turn_of indent) (λ left. Stands left.below tail) (x ∷ xs) (one.read, behind) all in
      let whole : BlockMap (BlockNode levels) levels from one.read behind (Ok (made.Map (place from) entries, all.left)) =
      (Ok (entries, all.left), subst (λ (k : ℕ). Repeats (Turn_of k) (one.read, behind) (Ok (entries, all.left))) same_indent repeats, refl) in
      let may : may_be_block_key (opening false true from) (from.line == one.to.line) ≡ true =
      may_form l.style (trees.out-Tree x.key) from.ragged (from.line == one.to.line) from.here (58 ∷ rest) fit.0.1.1
      (split.0 ∙ ap (λ (t : List ℕ). t ++ 58 ∷ rest) (written-form l.style x.key (trees.out-Tree x.key) refl)) one.line in
      let is_key : is_block_key from one.to ≡ true = (λ i. may i && one.colon i) in
      record {
        read = made.Map (place from) entries;
        left = all.left;
        node = MatchBool-no (is_item from.here) _ _ (tree_no_item l.style x.key (58 ∷ rest) from.here split.0) (
          Ok (one.read, one.to),
          one.form,
          MatchBool-yes (is_block_key from one.to) _ _ is_key
              (subst (λ (o : Option Place). FirstKey (BlockNode levels) levels from one.read one.to o (Ok (made.Map (place from) entries, all.left))) (sym (no_deep_place levels x.key one.read fit.0.1.0 one.same)) whole),
        );
        below = all.fine;
        same = mapped_codes tree at (x ∷ xs) is ∙ ap map_codes all.same ∙ sym (mapped_codes (made.Map (place from) entries) (place from) entries (made.outs-Map (place from) entries));
      }
