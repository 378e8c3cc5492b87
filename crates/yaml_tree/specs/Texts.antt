-- What a whole text spells, or what it is refused for first.
use Rattle.std.specs.Prelude.{◌≡◌, ℕ, ◌+◌, false, ◌&&◌, ◌==◌, if◌then◌else◌, MatchBool, List, [], ◌∷◌, map, codes, Result, Ok, Err}
use Rattle.std.specs.Str.{bytes_eq}
use Rattle.dp_base.specs.declared.place.Place.{Place}
use Rattle.yaml_scan.specs.Scan.{scan}
use Rattle.yaml_scan.specs.declared.line.Line.{Line}
use Rattle.yaml_scan.specs.declared.line.ScanEnd.{ScanEnd}
use Rattle.yaml_tree.specs.Rest.{Row, row_of, Rest, front}
use Rattle.yaml_tree.specs.Lines.{from_content, is_marker, marker_end, end_from}
use Rattle.yaml_tree.specs.Flow.{Outcome}
use Rattle.yaml_tree.specs.Blocks.{BlockNode}
use Rattle.yaml_tree.specs.declared.tree.Tree.{Tree}
use Rattle.yaml_tree.specs.declared.tree.Tree.TheVariants as trees
use Rattle.yaml_tree.specs.declared.tree.YamlEnd.{YamlEnd}
use Rattle.yaml_tree.specs.declared.tree.YamlEnd.TheVariants.{Scan, Unread}

-- how many nodes may stand inside one another
abbrev pub most_levels : ℕ
most_levels = 64

abbrev pub place_in : (file line column : ℕ) → Place
place_in file line column = record { file = file; line = line; column = column }

abbrev pub before_lines : (file : ℕ) → List Row → Rest
before_lines file rows = record { file = file; end = end_from (place_in file 1 1) rows; line = 1; column = 1; here = []; ragged = false; below = rows }

-- One line `---` may come first, after blank and comment lines.
abbrev pub past_start : List Row → List Row
past_start [] = []
past_start (row ∷ rows) = if row.indent == 0 && bytes_eq row.text (codes "---") then from_content rows else row ∷ rows

-- A line below the top node: it marks documents, or it begins no block.
abbrev pub stray_line : (file : ℕ) → Row → YamlEnd
stray_line file row = if is_marker row then marker_end file row else Unread (place_in file row.number (row.indent + 1))

abbrev pub nothing_below : (file : ℕ) → Tree → List Row → Result Tree YamlEnd
nothing_below file tree [] = Ok tree
nothing_below file tree (row ∷ rows) = Err (stray_line file row)

abbrev pub whole_text : (file : ℕ) → Outcome → Result Tree YamlEnd
whole_text file (Ok x) = nothing_below file x.0 x.1.below
whole_text file (Err e) = Err e

-- The top node begins in the first of these lines. A text without content is one empty scalar.
abbrev pub TopNode : (file : ℕ) → (start : Rest) → List Row → Result Tree YamlEnd → Type 0
TopNode file start [] outcome = outcome ≡ Ok (trees.Scalar (place_in file 1 1) [])
TopNode file start (row ∷ rows) outcome = MatchBool (is_marker row)
    (outcome ≡ Err (marker_end file row))
    ((node : Outcome) × BlockNode most_levels 0 (front start row rows) node × (outcome ≡ whole_text file node))

abbrev pub OfLines : (file : ℕ) → List ℕ → Result (List Line) ScanEnd → Result Tree YamlEnd → Type 0
OfLines file bytes (Err e) outcome = outcome ≡ Err (Scan e)
OfLines file bytes (Ok lines) outcome = (let rows : List Row = map (row_of bytes) lines in TopNode file (before_lines file rows) (past_start (from_content rows)) outcome)

-- reading the text of a file
abbrev pub Reads : (file : ℕ) → List ℕ → Result Tree YamlEnd → Type 0
Reads file bytes outcome = OfLines file bytes (scan file bytes) outcome

-- the text spells this tree
abbrev pub Spells : (file : ℕ) → List ℕ → Tree → Type 0
Spells file bytes tree = Reads file bytes (Ok tree)

-- the text spells no tree, and this is refused first
abbrev pub Refused : (file : ℕ) → List ℕ → YamlEnd → Type 0
Refused file bytes e = Reads file bytes (Err e)
