-- The lines of a file, as spans of its bytes.
use Rattle.std.specs.Prelude.{ℕ, ◌+◌, List, [], ◌∷◌, length, drop}
use Rattle.yaml_scan.specs.Bytes.{mark_length, cut, indent, content}
use Rattle.yaml_scan.specs.declared.line.Line.{Line}

-- the line of this number whose first byte has this offset
abbrev pub line_at : (number at : ℕ) → List ℕ → Line
line_at number at line = record { number = number; indent = indent line; start = at + indent line; end = at + indent line + length (content line) }

unfoldable pub lines_from : (number at : ℕ) → List (List ℕ) → List Line
lines_from number at [] = []
lines_from number at (line ∷ lines) = line_at number at line ∷ lines_from (number + 1) (at + length line) lines

-- The lines are numbered from 1. A byte order mark at the file's front belongs to none.
abbrev pub lines_of : List ℕ → List Line
lines_of bytes = lines_from 1 (mark_length bytes) (cut (drop (mark_length bytes) bytes))
