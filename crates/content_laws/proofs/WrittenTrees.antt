-- The text of a tree, read as a whole.
use Rattle.std.proofs.Common.{◌≡◌, ℕ, Bool, true, false, not, ◌&&◌, ◌||◌, ◌==◌, List, [], ◌∷◌, Result, Ok, sym, ap, ◌∙◌, subst}
use Rattle.std.specs.Prelude.{codes}
use Rattle.std.specs.Str.{bytes_eq}
use Rattle.std.proofs.lemmas.Bool.{cond-true, cond-false}
use Rattle.std.proofs.lemmas.List.{append-nil}
use Rattle.std.proofs.lemmas.Slice.Eq.{bytes_eq-Decides}
use Rattle.std.proofs.Math.Bool.{and-false}
use Rattle.yaml_scan.specs.Faults.{is_filled}
use Rattle.yaml_scan.specs.Lines.{line_at}
use Rattle.yaml_scan.specs.declared.line.Line.{Line}
use Rattle.yaml_scan.specs.declared.line.ScanEnd.{ScanEnd}
use Rattle.yaml_tree.specs.Rest.{Row, row_of, Rest, front}
use Rattle.yaml_tree.specs.Characters.{begins}
use Rattle.yaml_tree.specs.Lines.{has_content, from_content, is_marker, settle}
use Rattle.yaml_tree.specs.Keys.{same_key}
use Rattle.yaml_tree.specs.Known.{key_code}
use Rattle.yaml_tree.specs.Texts.{past_start, before_lines, nothing_below, TopNode, OfLines, Spells}
use Rattle.yaml_tree.specs.declared.tree.Tree.{Tree}
use Rattle.yaml_tree.proofs.BaseText.{MatchBool-no}
use Rattle.yaml_tree.proofs.KeyCodes.{same_code}
use Rattle.yaml_tree.proofs.One.{one_reading}
use Rattle.content_laws.specs.Writing.{Style, written, IsWritable, LawWritten, LawAlone}
use Rattle.content_laws.proofs.WrittenBlanks.{past_blanks, past_solid}
use Rattle.content_laws.proofs.WrittenCodes.{TreeCodes}
use Rattle.content_laws.proofs.WrittenForms.{Begun, begun}
use Rattle.content_laws.proofs.WrittenBytes.{tree_line, ended as last_of}
use Rattle.content_laws.proofs.WrittenNodes.{Whole, whole_read, node_read}
use Rattle.content_laws.proofs.WrittenLines.{one_scan, row_text}

module _ (s : Style) where
  -- ---- the line

  -- a line that begins as a tree does
  module _ (row : Row) (text : List ℕ) (is : row.text ≡ text) (first : Begun s text) where
    filled : has_content row ≡ true
    filled = ap is_filled (ap past_blanks (is ∙ first.is) ∙ past_solid first.byte first.more first.first.solid) ∙ ap not first.first.solid.no_comment

    no_start : bytes_eq row.text (codes "---") ≡ false
    no_start = ap (λ (t : List ℕ). bytes_eq t (codes "---")) (is ∙ sym (append-nil text)) ∙ first.no_start []

    no_dots : bytes_eq row.text (codes "...") ≡ false
    no_dots = ap (λ (t : List ℕ). bytes_eq t (codes "...")) (is ∙ first.is) ∙ ap (λ (c : Bool). c && bytes_eq first.more (46 ∷ 46 ∷ [])) first.first.no_dot

    no_marker : is_marker row ≡ false
    no_marker =
        (λ i. row.indent == 0 && (no_start i || no_dots i || (ap (begins 37) (is ∙ first.is) ∙ first.first.no_directive) i))
        ∙ and-false (row.indent == 0)

    all_left : past_start (from_content (row ∷ [])) ≡ row ∷ []
    all_left =
        ap past_start (cond-true (has_content row) _ _ filled)
        ∙ cond-false (row.indent == 0 && bytes_eq row.text (codes "---")) _ _ (ap (λ (b : Bool). row.indent == 0 && b) no_start ∙ and-false (row.indent == 0))

  -- ---- the text

  module _ (file : ℕ) (tree : Tree) (fit : IsWritable tree) where
    abbrev bytes : List ℕ
    bytes = written s tree

    abbrev row : Row
    row = row_of bytes (line_at 1 0 bytes)

    abbrev start : Rest
    start = before_lines file (row ∷ [])

    abbrev from : Rest
    from = front start row []

    text : row.text ≡ bytes
    text = row_text s bytes (tree_line s 64 tree fit) (begun s tree) (last_of s tree)

    one : Whole 64 0 tree from
    one = whole_read s 64 0 tree from [] fit text tt tt

    top : TopNode file start (row ∷ []) (Ok one.read)
    top =
        let none : one.left.below ≡ [] = one.below in
        MatchBool-no (is_marker row) _ _ (no_marker row bytes text (begun s tree)) (
          Ok (one.read, settle one.left),
          node_read s 63 0 tree from one text,
          sym (ap (λ (rows : List Row). nothing_below file one.read (from_content rows)) none),
        )

    spelled : Spells file bytes one.read
    spelled =
        subst (λ (lines : Result (List Line) ScanEnd). OfLines file bytes lines (Ok one.read)) (sym (one_scan s bytes (tree_line s 64 tree fit) (begun s tree) (last_of s tree) file))
        (subst (λ (rows : List Row). TopNode file start rows (Ok one.read)) (sym (all_left row bytes text (begun s tree))) top)

    same : same_key tree one.read ≡ true
    same = sym (same_code tree one.read) ∙ (bytes_eq-Decides (key_code tree) (key_code one.read)).1 (ap (λ (c : TreeCodes). c.0) one.same)

pub written_law : LawWritten
written_law file s tree fit = ((one s file tree fit).read, spelled s file tree fit, same s file tree fit)

pub alone_law : LawAlone
alone_law file s tree fit read spells =
    let other = written_law file s tree fit in
    let e : Ok read ≡ Ok other.0 = one_reading file (written s tree) (Ok read) (Ok other.0) spells other.1 in
    let same : read ≡ other.0 = cc in
    ap (same_key tree) same ∙ other.2
