-- What a file is refused for before its lines are read: a byte that begins no character, and a tab as indent.
use Rattle.std.specs.Prelude.{ℕ, ◌+◌, Bool, false, not, ◌==◌, if◌then◌else◌, nat_lt, List, [], ◌∷◌, length, take, drop, Option, None, Some}
use Rattle.std.specs.List.{prefix_len, suffix_len, position, count_by}
use Rattle.std.specs.Str.Lossy.{utf8_valid_len}
use Rattle.dp_base.specs.declared.place.Place.{Place}
use Rattle.dp_base.specs.Bytes.{is_blank}
use Rattle.yaml_scan.specs.Bytes.{mark_length, cut, without_end}

-- The place of a byte in a file. Lines and columns count from 1, and columns count bytes. A byte order mark at the file's front counts in no column.
abbrev pub place_of : (file : ℕ) → List ℕ → (at : ℕ) → Place
place_of file bytes at = record { file = file; line = 1 + count_by is_feed before; column = 1 + suffix_len (λ byte. not (is_feed byte)) before } where
  is_feed : ℕ → Bool
  is_feed byte = byte == 10

  before : List ℕ
  before = drop (mark_length bytes) (take at bytes)

-- the first byte where, read character by character, none of UTF-8 begins
abbrev pub bad_byte : List ℕ → Option ℕ
bad_byte bytes = if nat_lt (utf8_valid_len bytes) (length bytes) then Some (utf8_valid_len bytes) else None

-- what stands behind a line's leading blanks is more than a comment
abbrev pub is_filled : List ℕ → Bool
is_filled [] = false
is_filled (byte ∷ bytes) = not (byte == 35)

-- the first tab among the leading blanks of a line that is neither blank nor a comment line
abbrev pub tab_in : List ℕ → Option ℕ
tab_in line = if is_filled (drop leading text) then position (λ byte. byte == 9) (take leading text) else None where
  text : List ℕ
  text = without_end line

  leading : ℕ
  leading = prefix_len is_blank text

-- a tab of a line whose first byte has this offset, or else one of later lines
abbrev pub tab_or : (at : ℕ) → Option ℕ → Option ℕ → Option ℕ
tab_or at (Some i) later = Some (at + i)
tab_or at None later = later

-- the first such tab of lines whose first byte has this offset
unfoldable pub tab_from : (at : ℕ) → List (List ℕ) → Option ℕ
tab_from at [] = None
tab_from at (line ∷ lines) = tab_or at (tab_in line) (tab_from (at + length line) lines)

abbrev pub tab_indent : List ℕ → Option ℕ
tab_indent bytes = tab_from (mark_length bytes) (cut (drop (mark_length bytes) bytes))
