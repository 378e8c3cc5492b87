-- Whole lines: which have content, which mark documents, and where reading goes on below a point.
use Rattle.std.specs.Prelude.{ℕ, ◌+◌, Bool, ◌&&◌, ◌||◌, ◌==◌, if◌then◌else◌, List, [], ◌∷◌, length, drop, codes, Result, Ok, Err}
use Rattle.std.specs.List.{prefix_len}
use Rattle.std.specs.Str.{bytes_eq}
use Rattle.dp_base.specs.declared.place.Place.{Place}
use Rattle.dp_base.specs.Bytes.{is_blank}
use Rattle.yaml_scan.specs.Faults.{is_filled}
use Rattle.yaml_tree.specs.Rest.{Row, Rest, place, skip_blanks, front}
use Rattle.yaml_tree.specs.Characters.{begins, is_clear}
use Rattle.yaml_tree.specs.declared.tree.Feature.TheVariants.{Directive, Documents}
use Rattle.yaml_tree.specs.declared.tree.YamlEnd.{YamlEnd}
use Rattle.yaml_tree.specs.declared.tree.YamlEnd.TheVariants.{Unread, OutOfProfile}

abbrev pub is_empty : List ℕ → Bool
is_empty bytes = length bytes == 0

-- a line that is neither blank nor a comment line
abbrev pub has_content : Row → Bool
has_content row = is_filled (drop (prefix_len is_blank row.text) row.text)

-- these lines from the first one with content on
abbrev pub from_content : List Row → List Row
from_content [] = []
from_content (row ∷ rows) = if has_content row then row ∷ rows else from_content rows

-- A line that marks documents: `---`, `...`, or one that begins with `%`. None of them may stand anywhere, but for one
-- `---` in front.
abbrev pub is_marker : Row → Bool
is_marker row = row.indent == 0 && (bytes_eq row.text (codes "---") || bytes_eq row.text (codes "...") || begins 37 row.text)

abbrev pub marker_end : (file : ℕ) → Row → YamlEnd
marker_end file row = OutOfProfile (let p : Place = record { file = file; line = row.number; column = 1 } in p) (if begins 37 row.text then Directive else Documents)

-- The place where lines end: one byte past the last byte that is no blank, or the given place if all are blank.
abbrev pub end_from : Place → List Row → Place
end_from end [] = end
end_from end (row ∷ rows) = end_from (if is_empty row.text then end else (let p : Place = record { file = end.file; line = row.number; column = row.indent + 1 + length row.text } in p)) rows

-- In a flow form, given the lines from the next one with content on: its first character, or the refusal there or at
-- the text's end.
abbrev pub flow_below : Rest → List Row → Result Rest YamlEnd
flow_below r [] = Err (Unread r.end)
flow_below r (row ∷ rows) = if is_marker row then Err (marker_end r.file row) else Ok (front r row rows)

-- In a flow form blanks, line breaks and comments are skipped: the next point where something stands.
abbrev pub flow_point : Rest → Result Rest YamlEnd
flow_point r = if is_clear r.here then flow_below r (from_content r.below) else Ok (skip_blanks r)

-- in block style, the line's end is passed, and the lines below it up to the next one with content
abbrev pub settle : Rest → Rest
settle r = record { file = r.file; end = r.end; line = r.line; column = r.column; here = []; ragged = r.ragged; below = from_content r.below }

-- The same after a whole scalar or flow form, behind which no more than a comment may stand: reading stops at the first
-- other character.
abbrev pub end_line : Rest → Result Rest YamlEnd
end_line r = if is_clear r.here then Ok (settle r) else Err (Unread (place (skip_blanks r)))
