-- The tokens of a text: brackets, bars and words.
use Rattle.std.specs.Prelude.{◌≡◌, ℕ, ◌+◌, List, [], ◌∷◌, Bool, true, false, not, ◌||◌, ◌==◌, if◌then◌else◌, refl}
use Rattle.std.specs.Char.{is_control}
use Rattle.std.specs.Coded.{Coded, code_by, coded×, coded_ℕ, coded_list}
use Rattle.std.specs.List.{list_any, take_while}
use Rattle.std.specs.Str.{chars}

-- `(`, `)`, `|` or a word, with the offset of its first byte, and a word with its bytes
pub data Token : Type 0 where
  Open : ℕ → Token
  Close : ℕ → Token
  Bar : ℕ → Token
  Word : ℕ → List ℕ → Token

-- space, tab, line feed, carriage return
abbrev pub is_white : ℕ → Bool
is_white byte = byte == 32 || byte == 9 || byte == 10 || byte == 13

abbrev pub is_mark : ℕ → Bool
is_mark byte = byte == 40 || byte == 41 || byte == 124

-- a byte of a word
abbrev pub is_inner : ℕ → Bool
is_inner byte = not (is_white byte || is_mark byte)

-- The tokens of bytes that begin at an offset: each `(`, `)` and `|` is one, and so is each longest run of the other
-- bytes that are no white space. `inside` says that the byte before these is part of a run, which then goes on here.
unfoldable pub tokens_from : (inside : Bool) (at : ℕ) → List ℕ → List Token
tokens_from inside at [] = []
tokens_from inside at (byte ∷ bytes) =
    if is_white byte then tokens_from false (at + 1) bytes
    else (if byte == 40 then Open at ∷ tokens_from false (at + 1) bytes
    else (if byte == 41 then Close at ∷ tokens_from false (at + 1) bytes
    else (if byte == 124 then Bar at ∷ tokens_from false (at + 1) bytes
    else (if inside then tokens_from true (at + 1) bytes
    else Word at (take_while is_inner (byte ∷ bytes)) ∷ tokens_from true (at + 1) bytes))))

abbrev pub tokens_of : List ℕ → List Token
tokens_of text = tokens_from false 0 text

abbrev pub offset : Token → ℕ
offset (Open at) = at
offset (Close at) = at
offset (Bar at) = at
offset (Word at word) = at

-- a character of the word is a control character: U+0000 to U+001F, or U+007F to U+009F
abbrev pub has_control : List ℕ → Bool
has_control word = list_any is_control (chars word)

-- ---- tokens as numbers and lists

abbrev to_parts : Token → ℕ × (ℕ × List ℕ)
to_parts (Open at) = (0, (at, []))
to_parts (Close at) = (1, (at, []))
to_parts (Bar at) = (2, (at, []))
to_parts (Word at word) = (3, (at, word))

abbrev from_parts : ℕ × (ℕ × List ℕ) → Token
from_parts p = if p.0 == 0 then Open p.1.0 else (if p.0 == 1 then Close p.1.0 else (if p.0 == 2 then Bar p.1.0 else Word p.1.0 p.1.1))

pub from_parts-to_parts : (t : Token) → from_parts (to_parts t) ≡ t
from_parts-to_parts (Open at) = refl
from_parts-to_parts (Close at) = refl
from_parts-to_parts (Bar at) = refl
from_parts-to_parts (Word at word) = refl

abbrev pub tokens_code : Coded (List Token)
tokens_code = coded_list (code_by (ℕ × (ℕ × List ℕ)) (coded× coded_ℕ (coded× coded_ℕ (coded_list coded_ℕ))) to_parts from_parts from_parts-to_parts)
