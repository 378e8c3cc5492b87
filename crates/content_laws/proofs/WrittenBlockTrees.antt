-- The lines of a tree in block style are a node that gives the tree, but for places.
use Rattle.std.proofs.Common.{◌≡◌, ℕ, zero, suc, ◌+◌, Bool, true, false, ◌&&◌, ◌==◌, List, [], ◌∷◌, ◌++◌, length, map, Option, None, Some, Result, Ok, inl, inr, refl, sym, ap, ◌∙◌, subst, append_assoc, append-nil, arith}
use Rattle.std.proofs.lemmas.Bool.{cond-true, cond-false, false≢true}
use Rattle.std.specs.Prelude.{codes}
use Rattle.std.specs.List.{flat_map}
use Rattle.std.specs.Str.{bytes_eq}
use Rattle.std.proofs.lemmas.Slice.Eq.{bytes_eq-Decides}
use Rattle.std.proofs.Math.Bool.{and-false}
use Rattle.yaml_scan.specs.Lines.{lines_from}
use Rattle.yaml_scan.specs.declared.line.Line.{Line as Span}
use Rattle.yaml_scan.specs.declared.line.ScanEnd.{ScanEnd}
use Rattle.yaml_tree.specs.Rest.{Row, row_of, Rest, front}
use Rattle.yaml_tree.specs.Lines.{has_content, from_content, is_marker, settle}
use Rattle.yaml_tree.specs.Keys.{same_key}
use Rattle.yaml_tree.specs.Known.{key_code}
use Rattle.yaml_tree.specs.Texts.{past_start, before_lines, nothing_below, TopNode, OfLines, Spells}
use Rattle.yaml_tree.proofs.BaseText.{MatchBool-no}
use Rattle.yaml_tree.proofs.KeyCodes.{same_code}
use Rattle.yaml_tree.proofs.One.{one_reading}
use Rattle.yaml_tree.specs.Blocks.{BlockNode}
use Rattle.yaml_tree.specs.declared.tree.Tree.{Tree}
use Rattle.yaml_tree.specs.declared.tree.Tree as trees
use Rattle.yaml_tree.specs.declared.tree.Pair.{Pair}
use Rattle.content_laws.specs.Writing.{written, WritableForm, IsWritableIn, IsWritable}
use Rattle.content_laws.specs.BlockWriting.{Layout, Line, Note, Dress, Piece, Content, Remark, form_in_line, is_in_line, block_lines, piece_text, with_notes, start_lines, pieces, byte_order_mark, IsComment, AreNotes, IsStart, IsDress, LawBlock, LawBlockAlone}
use Rattle.content_laws.proofs.WrittenCodes.{TreeCodes}
use Rattle.content_laws.proofs.WrittenScan.{IsText, IsGood, AllGood, ArePieces, TextRow, good_row, RowsOf, rows_are, many_lines}
use Rattle.content_laws.proofs.WrittenBytes.{IsLine, one_line, both}
use Rattle.std.proofs.lemmas.List.Elements.{All-head, All-tail}
use Rattle.std.proofs.Math.Seq.{drop-append_seam}
use Rattle.content_laws.proofs.WrittenGood.{good_lines}
use Rattle.content_laws.proofs.WrittenForms.{all_entries}
use Rattle.content_laws.proofs.WrittenNodes.{whole_read, node_read}
use Rattle.content_laws.proofs.WrittenRows.{IsRow, AreRows, FirstRow, settle_rows, Under}
use Rattle.content_laws.proofs.WrittenBlocks.{no_line, BeginsAt, Settled, EndsForm, BlockClaim, ends_under, FirstLine, first_line, lines_of}
use Rattle.content_laws.proofs.WrittenItems.{list_node}
use Rattle.content_laws.proofs.WrittenEntries.{map_node}

module _ (l : Layout) where
  -- a node in one line
  in_line_node : (levels least : ℕ) (tree : Tree) (from : Rest) (tail : List Line) → IsWritableIn (suc levels) tree → from.here ≡ written l.style tree → AreRows from.below tail → Under least tail → Settled (BlockNode (suc levels) least) tree from tail
  in_line_node levels least tree from tail fit here rows under =
      let one = whole_read l.style (suc levels) least tree from tail fit here rows under in
      let left_rows : AreRows one.left.below tail = subst (λ (rs : List Row). AreRows rs tail) (sym one.below) rows in
      record {
        read = one.read;
        left = settle one.left;
        node = node_read l.style levels least tree from one here;
        below = settle_rows one.left.below tail left_rows;
        same = one.same;
      }

  node_form : (levels : ℕ) → BlockClaim l levels → (least indent : ℕ) (tree : Tree) (in_line : Bool) (form : trees.Tree-F Tree Pair) (from : Rest) (tail : List Line) → (in_line ≡ false → form_in_line form ≡ false) → trees.out-Tree tree ≡ form
      → IsWritableIn (suc levels) tree → WritableForm (IsWritableIn levels) form → BeginsAt from (lines_of l (block_lines l levels) indent (written l.style tree) in_line form) tail → from.column ≡ indent + 1 → EndsForm form indent tail → Under least tail
      → Settled (BlockNode (suc levels) least) tree from tail
  node_form levels claim least indent tree true form from tail block is fit parts begun column ends under = in_line_node levels least tree from tail fit begun.0 begun.1 under
  node_form levels claim least indent tree false (trees.Tree-F.Scalar at text) from tail block is fit parts begun column ends under = absurd (false≢true (sym (block refl)))
  node_form levels claim least indent tree false (trees.Tree-F.List at []) from tail block is fit parts begun column ends under = absurd (false≢true (sym (block refl)))
  node_form levels claim least indent tree false (trees.Tree-F.List at (x ∷ xs)) from tail block is fit parts begun column ends under = list_node l levels claim least indent tree at x xs from tail is parts begun column ends
  node_form levels claim least indent tree false (trees.Tree-F.Map at []) from tail block is fit parts begun column ends under = absurd (false≢true (sym (block refl)))
  node_form levels claim least indent tree false (trees.Tree-F.Map at (x ∷ xs)) from tail block is fit parts begun column ends under =
      map_node l levels claim least indent tree at x xs from tail is (all_entries levels [] (x ∷ xs) parts.0 parts.1) begun column ends

  pub block_back : (levels : ℕ) → BlockClaim l levels
  unfolding IsWritableIn block_lines
  block_back zero least indent tree from tail fit begun column ends under = absurd fit
  block_back (suc levels) least indent tree from tail fit begun column ends under = node_form levels (block_back levels) least indent tree (is_in_line l tree) (trees.out-Tree tree) from tail (no_line l tree) refl fit fit begun column ends under

-- ---- what stands round the lines

are_both : (xs ys : List Piece) → ArePieces xs → ArePieces ys → ArePieces (xs ++ ys)
are_both [] ys a b = b
are_both (x ∷ xs) ys a b = (a.0, are_both xs ys a.1 b)

are_remarks : (notes : List Note) → AreNotes notes → ArePieces (map Remark notes)
are_remarks [] are = tt
are_remarks (note ∷ notes) are =
    let P : Note → Type 0 = λ n. IsComment n.comment in
    (All-head P note notes are, are_remarks notes (All-tail P note notes are))

noted_pieces : (notes : ℕ → List Note) → ((k : ℕ) → AreNotes (notes k)) → (k : ℕ) (lines : List Line) → AllGood lines → ArePieces (with_notes notes k lines)
noted_pieces notes are k [] good = are_remarks (notes k) (are k)
noted_pieces notes are k (line ∷ lines) good =
    are_both (map Remark (notes k)) (Content line ∷ with_notes notes (suc k) lines) (are_remarks (notes k) (are k)) (good.0.text_is, noted_pieces notes are (suc k) lines good.1)

start_text : IsText (codes "---")
start_text = record {
  line = both (45 ∷ []) (45 ∷ 45 ∷ []) minus (both (45 ∷ []) (45 ∷ []) minus minus);
  byte = 45;
  more = 45 ∷ 45 ∷ [];
  is = refl;
  solid = record { no_blank = refl; no_comment = refl };
  no_space = refl;
  no_mark = refl;
  front = 45 ∷ 45 ∷ [];
  last = 45;
  ends = refl;
  no_blank = refl;
  no_return = refl;
} where
  minus : IsLine (45 ∷ [])
  minus = one_line 45 (omega arith) refl

start_pieces : (start : Option (List Note)) → IsStart start → ArePieces (start_lines start)
start_pieces None is = tt
start_pieces (Some notes) is = are_both (map Remark notes) (Content (0, codes "---") ∷ []) (are_remarks notes is) (start_text, tt)

only_remarks : (notes : List Note) (rows : List Row) → RowsOf rows (map Remark notes) → AreRows rows []
only_remarks [] [] of = tt
only_remarks [] (row ∷ rows) of = absurd of
only_remarks (note ∷ notes) [] of = absurd of
only_remarks (note ∷ notes) (row ∷ rows) of = inl (of.0, only_remarks notes rows of.1)

remarks_past : (notes : List Note) (ps : List Piece) (rows : List Row) (lines : List Line) → RowsOf rows (map Remark notes ++ ps) → ((rs : List Row) → RowsOf rs ps → AreRows rs lines) → AreRows rows lines
remarks_past [] ps rows lines of others = others rows of
remarks_past (note ∷ notes) ps [] lines of others = absurd of
remarks_past (note ∷ notes) ps (row ∷ rows) lines of others = inl (of.0, remarks_past notes ps rows lines of.1 others)

content_then : (line : Line) (lines : List Line) (ps : List Piece) → IsGood line.1 → ((rs : List Row) → RowsOf rs ps → AreRows rs lines) → (rows : List Row) → RowsOf rows (Content line ∷ ps) → AreRows rows (line ∷ lines)
content_then line lines ps good others [] of = absurd of
content_then line lines ps good others (row ∷ rows) of = inr (good_row row line of.0 good, others rows of.1)

noted_rows : (notes : ℕ → List Note) (k : ℕ) (lines : List Line) → AllGood lines → (rows : List Row) → RowsOf rows (with_notes notes k lines) → AreRows rows lines
noted_rows notes k [] good rows of = only_remarks (notes k) rows of
noted_rows notes k (line ∷ lines) good rows of =
    remarks_past (notes k) (Content line ∷ with_notes notes (suc k) lines) rows (line ∷ lines) of
    (content_then line lines (with_notes notes (suc k) lines) good.0 (noted_rows notes (suc k) lines good.1))

-- the first line with content behind some notes
record FirstContent (rows : List Row) (line : Line) (ps : List Piece) : Type 0 where
  row : Row
  others : List Row
  is : from_content rows ≡ row ∷ others
  row_is : TextRow row line
  others_of : RowsOf others ps

first_content : (notes : List Note) (line : Line) (ps : List Piece) (rows : List Row) → RowsOf rows (map Remark notes ++ Content line ∷ ps) → FirstContent rows line ps
first_content [] line ps [] of = absurd of
first_content [] line ps (row ∷ rows) of = record { row = row; others = rows; is = cond-true (has_content row) _ _ of.0.content; row_is = of.0; others_of = of.1 }
first_content (note ∷ notes) line ps [] of = absurd of
first_content (note ∷ notes) line ps (row ∷ rows) of =
    let later = first_content notes line ps rows of.1 in
    record { row = later.row; others = later.others; is = cond-false (has_content row) _ _ of.0 ∙ later.is; row_is = later.row_is; others_of = later.others_of }

-- the row of the first line, behind a line `---`
record TopRow (rows : List Row) (line : Line) (lines : List Line) : Type 0 where
  row : Row
  others : List Row
  is : past_start (from_content rows) ≡ row ∷ others
  row_is : IsRow row line
  others_are : AreRows others lines

past_all : (row : Row) (rows : List Row) → bytes_eq row.text (codes "---") ≡ false → past_start (row ∷ rows) ≡ row ∷ rows
past_all row rows other =
    cond-false (row.indent == 0 && bytes_eq row.text (codes "---")) _ _ (ap (λ (b : Bool). row.indent == 0 && b) other ∙ and-false (row.indent == 0))

top_row : (start : Option (List Note)) (ps : List Piece) (rows : List Row) (first : List ℕ) (lines : List Line) → IsGood first → ((rs : List Row) → RowsOf rs ps → AreRows rs ((0, first) ∷ lines)) → RowsOf rows (start_lines start ++ ps)
    → TopRow rows (0, first) lines
top_row None ps rows first lines good others of =
    let found : FirstRow (from_content rows) (0, first) lines = settle_rows rows ((0, first) ∷ lines) (others rows of) in
    record {
      row = found.row;
      others = found.others;
      is = ap past_start found.is ∙ past_all found.row found.others (ap (λ (t : List ℕ). bytes_eq t (codes "---")) found.row_is.text ∙ good.no_start);
      row_is = found.row_is;
      others_are = found.others_are;
    }
top_row (Some notes) ps rows first lines good others of =
    let line : Line = (0, codes "---") in
    let start = first_content notes line ps rows (subst (RowsOf rows) (append_assoc (map Remark notes) (Content line ∷ []) ps) of) in
    let found : FirstRow (from_content start.others) (0, first) lines = settle_rows start.others ((0, first) ∷ lines) (others start.others start.others_of) in
    let here : (start.row.indent == 0 && bytes_eq start.row.text (codes "---")) ≡ true =
    (λ i. start.row_is.indent i == 0 && bytes_eq (start.row_is.text i) (codes "---")) in
    record {
      row = found.row;
      others = found.others;
      is = ap past_start start.is ∙ cond-true (start.row.indent == 0 && bytes_eq start.row.text (codes "---")) _ _ here ∙ found.is;
      row_is = found.row_is;
      others_are = found.others_are;
    }

-- ---- the whole text

module _ (file : ℕ) (l : Layout) (d : Dress) (tree : Tree) (dressed : IsDress d) (fit : IsWritable tree) where
  abbrev lines : List Line
  lines = block_lines l 64 0 tree

  abbrev ps : List Piece
  ps = pieces d lines

  abbrev bytes : List ℕ
  bytes = byte_order_mark d.mark ++ flat_map (piece_text d.returns) ps

  abbrev at : ℕ
  at = length (byte_order_mark d.mark)

  abbrev spans : List Span
  spans = lines_from 1 at (map (piece_text d.returns) ps)

  abbrev rows : List Row
  rows = map (row_of bytes) spans

  abbrev start : Rest
  start = before_lines file rows

  good : AllGood lines
  good = good_lines l 64 0 tree fit

  are : ArePieces ps
  are = are_both (start_lines d.start) (with_notes d.notes 0 lines) (start_pieces d.start dressed.0) (noted_pieces d.notes dressed.1 0 lines good)

  first : FirstLine l 0 (is_in_line l tree) (trees.out-Tree tree) lines
  first = first_line l 64 0 tree fit

  good_first : IsGood first.text
  good_first = (let split : AllGood ((0, first.text) ∷ first.others) = subst AllGood first.is good in split.0)

  found : TopRow rows (0, first.text) first.others
  found =
      top_row d.start (with_notes d.notes 0 lines) rows first.text first.others good_first
      (λ rs of. subst (AreRows rs) first.is (noted_rows d.notes 0 lines good rs of))
      (rows_are d.returns bytes 1 at ps are (drop-append_seam (byte_order_mark d.mark) (flat_map (piece_text d.returns) ps)))

  abbrev from : Rest
  from = front start found.row found.others

  begun : BeginsAt from lines []
  begun =
      subst (λ (ls : List Line). BeginsAt from ls []) (sym first.is)
      (found.row_is.text, subst (AreRows found.others) (sym (append-nil first.others)) found.others_are)

  one : Settled (BlockNode 64 0) tree from []
  one = block_back l 64 0 0 tree from [] fit begun (ap (λ (k : ℕ). k + 1) found.row_is.indent) (ends_under (trees.out-Tree tree) 0 [] tt) tt

  top : TopNode file start (found.row ∷ found.others) (Ok one.read)
  top =
      MatchBool-no (is_marker found.row) _ _ found.row_is.no_marker
      (Ok (one.read, one.left), one.node, sym (ap (nothing_below file one.read) one.below))

  spelled : Spells file bytes one.read
  spelled =
      subst (λ (read : Result (List Span) ScanEnd). OfLines file bytes read (Ok one.read)) (sym (many_lines d.returns file d.mark ps are))
      (subst (λ (rs : List Row). TopNode file start rs (Ok one.read)) (sym found.is) top)

  same : same_key tree one.read ≡ true
  same = sym (same_code tree one.read) ∙ (bytes_eq-Decides (key_code tree) (key_code one.read)).1 (ap (λ (c : TreeCodes). c.0) one.same)

pub block_law : LawBlock
block_law file l d tree dressed fit = ((one file l d tree dressed fit).read, spelled file l d tree dressed fit, same file l d tree dressed fit)

pub block_alone_law : LawBlockAlone
block_alone_law file l d tree dressed fit read spells =
    let other = block_law file l d tree dressed fit in
    let e : Ok read ≡ Ok other.0 = one_reading file (bytes file l d tree dressed fit) (Ok read) (Ok other.0) spells other.1 in
    let same_tree : read ≡ other.0 = cc in
    ap (same_key tree) same_tree ∙ other.2
