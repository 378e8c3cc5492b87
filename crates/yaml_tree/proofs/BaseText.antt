-- The top node of a text.
use Rattle.std.proofs.Common.{◌≡◌, ℕ, Bool, false, List, [], ◌∷◌, map, drop, Result, None, Some, Ok, Err, refl, sym, ap, ◌∙◌, subst}
use Rattle.std.specs.Prelude.{MatchBool}
use Rattle.std.specs.List.{slice_get}
use Rattle.std.proofs.lemmas.Option.{same_Some}
use Rattle.yaml_scan.specs.declared.line.Line.{Line}
use Rattle.yaml_tree.specs.Rest.{Row, row_of, Rest, front}
use Rattle.yaml_tree.specs.Lines.{is_marker, from_content}
use Rattle.yaml_tree.specs.Flow.{Outcome}
use Rattle.yaml_tree.specs.Blocks.{BlockNode}
use Rattle.yaml_tree.specs.Texts.{most_levels, whole_text, nothing_below, stray_line, past_start, before_lines, TopNode, OfLines}
use Rattle.yaml_tree.specs.declared.tree.Tree.{Tree}
use Rattle.yaml_tree.specs.declared.tree.YamlEnd.{YamlEnd}
use Rattle.yaml_tree.proofs.BaseReader.{with_below}
use Rattle.yaml_tree.proofs.BasePoints.{rows-first, rows-none}

pub MatchBool-no : (b : Bool) (P Q : Type 0) → b ≡ false → Q → MatchBool b P Q
MatchBool-no b P Q e q = let R : Bool → Type 0 = λ x. MatchBool x P Q in subst R (sym e) q

-- the top node in the first of these lines, with the code's point at its first character
pub top-node : (file : ℕ) (start at : Rest) (rows : List Row) (row : Row) (node : Outcome) → slice_get rows 0 ≡ Some row → is_marker row ≡ false → at ≡ front start row (drop 1 rows) → BlockNode most_levels 0 at node → TopNode file start rows (whole_text file node)
top-node file start at [] row node at_first plain is read = absurd cc
top-node file start at (first ∷ rows) row node at_first plain is read =
    let same : first ≡ row = same_Some first row at_first in
    let from : at ≡ front start first rows = is ∙ ap (λ (r : Row). front start r rows) (sym same) in
    let P : Rest → Type 0 = λ r. BlockNode most_levels 0 r node in
    MatchBool-no (is_marker first) _ _ (ap is_marker same ∙ plain) (node, subst P from read, refl)

-- what stands below the node, in the clause's terms
pub whole_text-none : (file : ℕ) (tree : Tree) (left : Rest) → slice_get left.below 0 ≡ None → whole_text file (Ok (tree, left)) ≡ Ok tree
whole_text-none file tree left none = ap (nothing_below file tree) (rows-none left.below none)

pub whole_text-some : (file : ℕ) (tree : Tree) (left : Rest) (row : Row) → slice_get left.below 0 ≡ Some row → whole_text file (Ok (tree, left)) ≡ Err (stray_line file row)
whole_text-some file tree left row some = ap (nothing_below file tree) (rows-first left.below row some)

-- ---- the lines of a text

top-below : (file : ℕ) (start : Rest) (rows : List Row) (outcome : Result Tree YamlEnd) → TopNode file (with_below rows start) rows outcome → TopNode file start rows outcome
top-below file start [] outcome h = h
top-below file start (row ∷ rows) outcome h = h

-- before the top node
abbrev pub started : (file : ℕ) → List Row → Rest
started file rows = with_below (past_start (from_content rows)) (before_lines file rows)

pub of-started : (file : ℕ) (text : List ℕ) (lines : List Line) (outcome : Result Tree YamlEnd) (r : Rest) → r ≡ started file (map (row_of text) lines) → TopNode r.file r r.below outcome → OfLines file text (Ok lines) outcome
of-started file text lines outcome r is read =
    let rows : List Row = map (row_of text) lines in
    let P : Rest → Type 0 = λ x. TopNode x.file x x.below outcome in
    top-below file (before_lines file rows) (past_start (from_content rows)) outcome (subst P is read)
