-- Which characters begin and end what, within one line.
use Rattle.std.specs.Prelude.{ℕ, Bool, true, false, not, ◌&&◌, ◌||◌, ◌==◌, if◌then◌else◌, List, [], ◌∷◌, drop}
use Rattle.std.specs.List.{prefix_len}
use Rattle.dp_base.specs.Bytes.{is_blank}
use Rattle.yaml_scan.specs.Faults.{is_filled}

abbrev pub begins : ℕ → List ℕ → Bool
begins byte [] = false
begins byte (first ∷ bytes) = first == byte

-- a blank or the line's end
abbrev pub ends_word : List ℕ → Bool
ends_word [] = true
ends_word (byte ∷ bytes) = is_blank byte

-- `,` `[` `]` `{` `}`
abbrev pub is_flow_mark : ℕ → Bool
is_flow_mark byte = byte == 44 || byte == 91 || byte == 93 || byte == 123 || byte == 125

abbrev pub begins_flow_mark : List ℕ → Bool
begins_flow_mark [] = false
begins_flow_mark (byte ∷ bytes) = is_flow_mark byte

-- a character with which no plain scalar begins: a mark of flow forms, or `#` `&` `*` `!` `|` `>` `'` `"` `%` `@` and the
-- backtick
abbrev pub is_indicator : ℕ → Bool
is_indicator byte = is_flow_mark byte || byte == 35 || byte == 38 || byte == 42 || byte == 33 || byte == 124 || byte == 62 || byte == 39 || byte == 34 || byte == 37 || byte == 64 || byte == 96

-- behind a `:` stands what makes it one that ends a plain scalar: a blank, the line's end, or in a flow form a mark of it
abbrev pub ends_scalar : (flow : Bool) → List ℕ → Bool
ends_scalar flow bytes = ends_word bytes || (flow && begins_flow_mark bytes)

-- A plain scalar begins here, with a character that is neither a blank nor an indicator. With `-`, `?` and `:` it does so only before a character that is no blank, with `:` in a
-- flow form before none of its marks either.
abbrev pub begins_plain : (flow : Bool) → List ℕ → Bool
begins_plain flow [] = false
begins_plain flow (byte ∷ bytes) =
    if byte == 45 || byte == 63 then not (ends_word bytes)
    else (if byte == 58 then not (ends_scalar flow bytes)
    else not (is_blank byte || is_indicator byte))

-- A line begins with an item of a block list: `-`, and then a blank or the line's end.
abbrev pub is_item : List ℕ → Bool
is_item here = begins 45 here && ends_word (drop 1 here)

-- Behind a key in block style stands `:`, and then a blank or the line's end.
abbrev pub is_colon : List ℕ → Bool
is_colon here = begins 58 here && ends_word (drop 1 here)

-- After a form nothing but blanks is left in a line, or blanks and then a comment.
abbrev pub is_clear : List ℕ → Bool
is_clear [] = true
is_clear (byte ∷ bytes) = is_blank byte && not (is_filled (drop (prefix_len is_blank bytes) bytes))
