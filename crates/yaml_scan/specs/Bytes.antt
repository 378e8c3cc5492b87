-- A file's bytes cut into lines, and what is told of one line.
use Rattle.std.specs.Prelude.{ℕ, ◌-◌, Bool, ◌&&◌, ◌==◌, if◌then◌else◌, List, [], ◌∷◌, length, take, drop}
use Rattle.std.specs.List.{prefix_len, suffix_len}
use Rattle.dp_base.specs.Bytes.{is_blank}

abbrev pub is_space : ℕ → Bool
is_space byte = byte == 32

-- how many bytes a byte order mark at the front of a file has: none, where no mark is there
abbrev pub mark_length : List ℕ → ℕ
mark_length (a ∷ b ∷ c ∷ bytes) = if a == 0xEF && b == 0xBB && c == 0xBF then 3 else 0
mark_length bytes = 0

-- a byte in front of the first of these lines
abbrev pub before_first : ℕ → List (List ℕ) → List (List ℕ)
before_first byte [] = (byte ∷ []) ∷ []
before_first byte (line ∷ lines) = (byte ∷ line) ∷ lines

-- The lines of bytes, each with the line feed that ends it. No line begins behind a last line feed.
unfoldable pub cut : List ℕ → List (List ℕ)
cut [] = []
cut (byte ∷ bytes) = if byte == 10 then (byte ∷ []) ∷ cut bytes else before_first byte (cut bytes)

-- A line's end is a line feed, or a carriage return and a line feed. Unlike in YAML 1.2.2 a carriage return alone ends
-- no line, also at the end of the file.
abbrev pub without_end : List ℕ → List ℕ
without_end [] = []
without_end (byte ∷ []) = if byte == 10 then [] else byte ∷ []
without_end (byte ∷ next ∷ []) = if byte == 13 && next == 10 then [] else byte ∷ without_end (next ∷ [])
without_end (byte ∷ next ∷ bytes) = byte ∷ without_end (next ∷ bytes)

-- how many spaces lead a line
abbrev pub indent : List ℕ → ℕ
indent line = prefix_len is_space line

-- what stands in a line behind its leading spaces and before the blanks at its end
abbrev pub content : List ℕ → List ℕ
content line = without_blanks (drop (indent line) (without_end line)) where
  without_blanks : List ℕ → List ℕ
  without_blanks bytes = take (length bytes - suffix_len is_blank bytes) bytes
