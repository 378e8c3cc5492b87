-- A node that is written in flow style, where in block style a node may begin.
use Rattle.std.proofs.Common.{◌≡◌, ℕ, zero, suc, Bool, true, false, not, ◌&&◌, ◌||◌, ◌==◌, nat_lt, List, [], ◌∷◌, ◌++◌, length, Option, inl, inr, Ok, refl, sym, ap, ◌∙◌, arith}
use Rattle.std.proofs.lemmas.Bool.{cond-true, cond-false, false≢true, ne_eqb, lt-ltb}
use Rattle.std.proofs.lemmas.List.{append-nil}
use Rattle.std.proofs.Math.Bool.{and-false}
use Rattle.dp_base.specs.declared.place.Place.{Place}
use Rattle.yaml_tree.specs.Rest.{Row, Rest, place, on, skip_blanks}
use Rattle.yaml_tree.specs.Characters.{is_item, is_colon, is_clear}
use Rattle.yaml_tree.specs.Lines.{is_empty, has_content, settle}
use Rattle.yaml_tree.specs.Openings.{quote_opening, opening_of, opening}
use Rattle.yaml_tree.specs.Scalars.{goes_on, lines_added, added, plain}
use Rattle.yaml_tree.specs.Flow.{Form}
use Rattle.yaml_tree.specs.Blocks.{settled, ended, whole_form, LineValue, may_be_block_key, is_block_key, BlockNode}
use Rattle.yaml_tree.specs.declared.tree.Tree.{Tree}
use Rattle.yaml_tree.specs.declared.tree.Tree as trees
use Rattle.yaml_tree.specs.declared.tree.Tree.TheVariants as made
use Rattle.yaml_tree.specs.declared.tree.Pair.{Pair}
use Rattle.yaml_tree.proofs.BaseText.{MatchBool-no}
use Rattle.content_laws.specs.Writing.{Style, scalar_by, stands_plain, written, IsWritableIn}
use Rattle.content_laws.specs.BlockWriting.{Line}
use Rattle.content_laws.proofs.WrittenBlanks.{past_blanks}
use Rattle.content_laws.proofs.WrittenPlain.{stop_end, form_plain, behind_plain, nothing_added}
use Rattle.content_laws.proofs.WrittenScalars.{closes, split_quotes}
use Rattle.content_laws.proofs.WrittenCodes.{tree_codes, scalar_codes}
use Rattle.content_laws.proofs.WrittenForms.{written_form, written-form, begun, its_plain, is_plain_form, reads_back}
use Rattle.content_laws.proofs.WrittenRows.{AreRows, Under}

-- ---- a plain scalar does not go on in a line that stands less deep

full_text : (text : List ℕ) → (length text ≡ 0 → ⊥) → is_empty text ≡ false
full_text text some = ne_eqb (length text) 0 some

has_text : (row : Row) → has_content row ≡ true → is_empty row.text ≡ false
has_text row full = by row.text full where
  by : (text : List ℕ) → has_content (record row { text = text }) ≡ true → is_empty text ≡ false
  by [] e = absurd (false≢true e)
  by (byte ∷ bytes) e = full_text (byte ∷ bytes) (λ none. omega arith)

past_row : (least : ℕ) (r : Rest) (row : Row) (rows : List Row) (blanks : ℕ) (b : Bool) → is_empty row.text ≡ b → has_content row ≡ false → ((n : ℕ) → lines_added false least r n rows ≡ Ok ([], r)) → lines_added false least r blanks (row ∷ rows) ≡ Ok ([], r)
unfolding lines_added
past_row least r row rows blanks true empty none others = cond-true (is_empty row.text) _ _ empty ∙ others (suc blanks)
past_row least r row rows blanks false empty none others =
    cond-false (is_empty row.text) _ _ empty ∙ cond-true (not (goes_on false least row)) _ _ (ap (λ (b : Bool). not (b && (false || not (nat_lt row.indent least)))) none)

no_lines : (least : ℕ) (r : Rest) (rows : List Row) (tail : List Line) → AreRows rows tail → Under least tail → (blanks : ℕ) → lines_added false least r blanks rows ≡ Ok ([], r)
unfolding lines_added
no_lines least r [] tail are under blanks = refl
no_lines least r (row ∷ rows) tail (inl past) under blanks = past_row least r row rows blanks (is_empty row.text) refl past.0 (no_lines least r rows tail past.1 under)
no_lines least r (row ∷ rows) [] (inr none) under blanks = absurd none
no_lines least r (row ∷ rows) (line ∷ tail) (inr first) under blanks =
    let shallow : nat_lt row.indent least ≡ true = lt-ltb row.indent least (omega (arith, first.0.indent)) in
    let stops : goes_on false least row ≡ false = ap (λ (b : Bool). has_content row && (false || not b)) shallow ∙ and-false (has_content row) in
    cond-false (is_empty row.text) _ _ (has_text row first.0.content) ∙ cond-true (not (goes_on false least row)) _ _ (ap not stops)

at_end : (tree : Tree) (left : Rest) → left.here ≡ [] → ended (Ok (tree, left)) ≡ Ok (tree, settle left)
at_end tree left here = ap (settled tree) (cond-true (is_clear left.here) _ _ (ap is_clear here))

-- a scalar or flow form that was read up to its line's end, and what it is as a whole
pub record Whole (levels least : ℕ) (tree : Tree) (from : Rest) : Type 0 where
  pub read : Tree
  pub left : Rest
  pub form : Form false true levels from (Ok (read, left))
  pub whole : whole_form (opening false true from) least from (Ok (read, left)) ≡ Ok (read, settle left)
  pub here : left.here ≡ []
  pub below : left.below ≡ from.below
  pub same : tree_codes tree ≡ tree_codes read

module _ (s : Style) where
  -- a form that begins with what is written of a tree, and with no plain scalar, is whole
  whole_quoted : (text : List ℕ) (b ragged : Bool) (least : ℕ) (from : Rest) (x : Tree × Rest) (here behind : List ℕ) → b ≡ false → here ≡ scalar_by b text ++ behind
      → whole_form (opening_of false true ragged here) least from (Ok x) ≡ ended (Ok x)
  whole_quoted text true ragged least from x here behind e is = absurd (false≢true (sym e))
  whole_quoted text false ragged least from x here behind e is =
      ap (λ (h : List ℕ). whole_form (opening_of false true ragged h) least from (Ok x)) (is ∙ split_quotes text behind)
      ∙ ap (λ (o : Option (List ℕ)). whole_form (quote_opening false o) least from (Ok x)) (closes text behind)

  whole_written : (form : trees.Tree-F Tree Pair) (ragged : Bool) (least : ℕ) (from : Rest) (x : Tree × Rest) (here behind : List ℕ) → is_plain_form s form ≡ false → here ≡ written_form s form ++ behind
      → whole_form (opening_of false true ragged here) least from (Ok x) ≡ ended (Ok x)
  whole_written (trees.Tree-F.Scalar at text) ragged least from x here behind other is = whole_quoted text (stands_plain s text) ragged least from x here behind other is
  whole_written (trees.Tree-F.List at items) ragged least from x here behind other is = ap (λ (h : List ℕ). whole_form (opening_of false true ragged h) least from (Ok x)) is
  whole_written (trees.Tree-F.Map at entries) ragged least from x here behind other is = ap (λ (h : List ℕ). whole_form (opening_of false true ragged h) least from (Ok x)) is

  other_whole : (levels least : ℕ) (tree : Tree) (from : Rest) → IsWritableIn levels tree → is_plain_form s (trees.out-Tree tree) ≡ false → from.here ≡ written s tree → Whole levels least tree from
  other_whole levels least tree from fit other is =
      let one = reads_back s levels false true tree from [] fit (λ e. absurd (false≢true (sym e))) (λ e. stop_end) (is ∙ sym (append-nil (written s tree))) in
      let on_it : from.here ≡ written_form s (trees.out-Tree tree) ++ [] = is ∙ written-form s tree (trees.out-Tree tree) refl ∙ sym (append-nil (written_form s (trees.out-Tree tree))) in
      record {
        read = one.read;
        left = one.left;
        form = one.form;
        whole = whole_written (trees.out-Tree tree) from.ragged least from (one.read, one.left) from.here [] other on_it ∙ at_end one.read one.left one.here;
        here = one.here;
        below = one.below;
        same = one.same;
      }

  plain_whole : (levels least : ℕ) (tree : Tree) (at : Place) (text : List ℕ) (from : Rest) (tail : List Line) → trees.out-Tree tree ≡ trees.Tree-F.Scalar at text → stands_plain s text ≡ true → from.here ≡ text ++ []
      → AreRows from.below tail → Under least tail → Whole (suc levels) least tree from
  plain_whole levels least tree at text from tail is plain here rows under =
      let p = its_plain s text plain in
      let left : Rest = on (length text) from in
      let read : Tree = made.Scalar (place from) text in
      let nothing : left.here ≡ [] = behind_plain from text [] p here in
      let none : added false least left ≡ Ok ([], left) = cond-true (is_empty left.here) _ _ (ap is_empty nothing) ∙ no_lines least left from.below tail rows under 0 in
      record {
        read = read;
        left = left;
        form = form_plain from text [] p here false true (Form true true levels) (Form true false levels) stop_end;
        whole =
            ap (λ (h : List ℕ). whole_form (opening_of false true from.ragged h) least from (Ok (read, left))) here
            ∙ ap (λ o. whole_form o least from (Ok (read, left))) (p.opens false true from.ragged [])
            ∙ ap ended (nothing_added from text [] p here false least stop_end none) ∙ at_end read left nothing;
        here = nothing;
        below = refl;
        same = scalar_codes tree at text is ∙ sym (scalar_codes (made.Scalar (place from) text) (place from) text (made.outs-Scalar (place from) text));
      }

  scalar_whole : (levels least : ℕ) (tree : Tree) (at : Place) (text : List ℕ) (b : Bool) (from : Rest) (tail : List Line) → IsWritableIn (suc levels) tree → trees.out-Tree tree ≡ trees.Tree-F.Scalar at text → stands_plain s text ≡ b
      → from.here ≡ written s tree → AreRows from.below tail → Under least tail → Whole (suc levels) least tree from
  scalar_whole levels least tree at text true from tail fit is plain here rows under =
      plain_whole levels least tree at text from tail is plain
      (here ∙ written-form s tree (trees.Tree-F.Scalar at text) is ∙ ap (λ (b : Bool). scalar_by b text) plain ∙ sym (append-nil text)) rows under
  scalar_whole levels least tree at text false from tail fit is plain here rows under = other_whole (suc levels) least tree from fit (ap (is_plain_form s) is ∙ plain) here

  form_whole : (levels least : ℕ) (tree : Tree) (form : trees.Tree-F Tree Pair) (from : Rest) (tail : List Line) → IsWritableIn (suc levels) tree → trees.out-Tree tree ≡ form → from.here ≡ written s tree → AreRows from.below tail → Under least tail
      → Whole (suc levels) least tree from
  form_whole levels least tree (trees.Tree-F.Scalar at text) from tail fit is here rows under = scalar_whole levels least tree at text (stands_plain s text) from tail fit is refl here rows under
  form_whole levels least tree (trees.Tree-F.List at items) from tail fit is here rows under = other_whole (suc levels) least tree from fit (ap (is_plain_form s) is) here
  form_whole levels least tree (trees.Tree-F.Map at entries) from tail fit is here rows under = other_whole (suc levels) least tree from fit (ap (is_plain_form s) is) here

  pub whole_read : (levels least : ℕ) (tree : Tree) (from : Rest) (tail : List Line) → IsWritableIn levels tree → from.here ≡ written s tree → AreRows from.below tail → Under least tail → Whole levels least tree from
  unfolding IsWritableIn
  whole_read zero least tree from tail fit here rows under = absurd fit
  whole_read (suc levels) least tree from tail fit here rows under = form_whole levels least tree (trees.out-Tree tree) from tail fit refl here rows under

  -- as a node, and behind a key in one line
  pub node_read : (levels least : ℕ) (tree : Tree) (from : Rest) (one : Whole (suc levels) least tree from) → from.here ≡ written s tree → BlockNode (suc levels) least from (Ok (one.read, settle one.left))
  node_read levels least tree from one is =
      let no_item : is_item from.here ≡ false = ap is_item (is ∙ sym (append-nil (written s tree))) ∙ (begun s tree).no_item [] in
      let nothing : (skip_blanks one.left).here ≡ [] = ap past_blanks one.here in
      let no_key : is_block_key from one.left ≡ false =
      ap (λ (h : List ℕ). may_be_block_key (opening false true from) (from.line == one.left.line) && is_colon h) nothing
      ∙ and-false (may_be_block_key (opening false true from) (from.line == one.left.line)) in
      MatchBool-no (is_item from.here) _ _ no_item (
        Ok (one.read, one.left),
        one.form,
        MatchBool-no (is_block_key from one.left) _ _ no_key (sym one.whole),
      )

  pub line_read : (levels least : ℕ) (tree : Tree) (from : Rest) (one : Whole levels least tree from) → LineValue levels least from (Ok (one.read, settle one.left))
  line_read levels least tree from one = (Ok (one.read, one.left), one.form, sym one.whole)
