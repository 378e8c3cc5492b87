-- Scalars: the plain ones, which may go on over lines, and the quoted ones.
use Rattle.std.specs.Prelude.{ℕ, suc, ◌+◌, ◌-◌, Bool, false, not, ◌&&◌, ◌||◌, ◌==◌, if◌then◌else◌, nat_lt, List, [], ◌∷◌, ◌++◌, length, take, drop, replicate, Option, None, Some, option_map, Result, Ok, Err}
use Rattle.std.specs.List.{suffix_len}
use Rattle.dp_base.specs.Bytes.{is_blank}
use Rattle.yaml_tree.specs.Rest.{Row, Rest, place, on, front}
use Rattle.yaml_tree.specs.Characters.{ends_scalar, is_flow_mark}
use Rattle.yaml_tree.specs.Lines.{is_empty, has_content, is_marker, marker_end}
use Rattle.yaml_tree.specs.declared.tree.Feature.TheVariants.{Escape}
use Rattle.yaml_tree.specs.declared.tree.Tree.{Tree}
use Rattle.yaml_tree.specs.declared.tree.Tree.TheVariants as trees
use Rattle.yaml_tree.specs.declared.tree.YamlEnd.{YamlEnd}
use Rattle.yaml_tree.specs.declared.tree.YamlEnd.TheVariants.{OutOfProfile}

-- A plain scalar ends before this character of its line: a `#` behind a blank, a `:` as `ends_scalar` says, and in a flow form one of its marks.
abbrev pub ends_before : (flow behind_blank : Bool) → ℕ → List ℕ → Bool
ends_before flow behind_blank byte bytes = (byte == 35 && behind_blank) || (byte == 58 && ends_scalar flow bytes) || (flow && is_flow_mark byte)

-- the characters of a line before the one where a plain scalar ends
unfoldable pub run_of : (flow behind_blank : Bool) → List ℕ → List ℕ
run_of flow behind_blank [] = []
run_of flow behind_blank (byte ∷ bytes) = if ends_before flow behind_blank byte bytes then [] else byte ∷ run_of flow (is_blank byte) bytes

-- what a line has of a plain scalar: those without the blanks at their end
abbrev pub part_of : (flow : Bool) → List ℕ → List ℕ
part_of flow here = (let run : List ℕ = run_of flow false here in take (length run - suffix_len is_blank run) run)

-- One line break gives a space, and one with blank lines behind it a line feed for each of these.
abbrev pub break_text : (blanks : ℕ) → List ℕ
break_text blanks = if blanks == 0 then 32 ∷ [] else replicate blanks 10

-- A plain scalar may go on in a line: one with content, in block style one whose indent is great enough.
abbrev pub goes_on : (flow : Bool) (least : ℕ) → Row → Bool
goes_on flow least row = has_content row && (flow || not (nat_lt row.indent least))

abbrev pub with_text : List ℕ → Result (List ℕ × Rest) YamlEnd → Result (List ℕ × Rest) YamlEnd
with_text text (Ok x) = Ok (text ++ x.0, x.1)
with_text text (Err e) = Err e

-- What is added to a plain scalar that fills the rest of its line, and where it ends then. `r` is where it ended so
-- far, and so many blank lines stand between that and these lines. A line that adds nothing is none of its lines.
unfoldable pub lines_added : (flow : Bool) (least : ℕ) → Rest → (blanks : ℕ) → List Row → Result (List ℕ × Rest) YamlEnd
lines_added flow least r blanks [] = Ok ([], r)
lines_added flow least r blanks (row ∷ rows) =
    if is_empty row.text then lines_added flow least r (suc blanks) rows
    else (if not (goes_on flow least row) then Ok ([], r)
    else (if is_marker row then Err (marker_end r.file row)
    else (if is_empty (part_of flow row.text) then Ok ([], r)
    else (let end : Rest = on (length (part_of flow row.text)) (front r row rows) in
    with_text (break_text blanks ++ part_of flow row.text) (if is_empty end.here then lines_added flow least end 0 rows else Ok ([], end))))))

-- what is added to a plain scalar behind its part of one line
abbrev pub added : (flow : Bool) (least : ℕ) → Rest → Result (List ℕ × Rest) YamlEnd
added flow least r = if is_empty r.here then lines_added flow least r 0 r.below else Ok ([], r)

abbrev pub scalar_at : Rest → Result (List ℕ × Rest) YamlEnd → Result (Tree × Rest) YamlEnd
scalar_at r (Ok x) = Ok (trees.Scalar (place r) x.0, x.1)
scalar_at r (Err e) = Err e

-- the plain scalar that begins at a point, in block style with the least indent of its other lines
abbrev pub plain : (flow : Bool) (least : ℕ) → Rest → Result (Tree × Rest) YamlEnd
plain flow least r = (let part : List ℕ = part_of flow r.here in scalar_at r (with_text part (added flow least (on (length part) r))))

-- in block style, what its first line has of it
abbrev pub plain_part : Rest → Result (Tree × Rest) YamlEnd
plain_part r = (let part : List ℕ = part_of false r.here in Ok (trees.Scalar (place r) part, on (length part) r))

-- quoted scalars

abbrev pub longer : List ℕ → Option (List ℕ) → Option (List ℕ)
longer bytes inner = option_map (λ (rest : List ℕ). bytes ++ rest) inner

-- What stands between single quotes, behind the opening one: `''` is one quote that does not close. None where the line ends before the closing one.
unfoldable pub single_quoted : List ℕ → Option (List ℕ)
single_quoted [] = None
single_quoted (byte ∷ []) = if byte == 39 then Some [] else None
single_quoted (byte ∷ next ∷ bytes) =
    if byte == 39 then (if next == 39 then longer (39 ∷ 39 ∷ []) (single_quoted bytes) else Some [])
    else longer (byte ∷ []) (single_quoted (next ∷ bytes))

-- The same between double quotes, where a backslash takes the next character with it.
unfoldable pub double_quoted : List ℕ → Option (List ℕ)
double_quoted [] = None
double_quoted (byte ∷ []) = if byte == 34 then Some [] else None
double_quoted (byte ∷ next ∷ bytes) =
    if byte == 34 then Some []
    else (if byte == 92 then longer (byte ∷ next ∷ []) (double_quoted bytes)
    else longer (byte ∷ []) (double_quoted (next ∷ bytes)))

-- what stands between the quotes of the scalar that begins here
abbrev pub inner_of : List ℕ → Option (List ℕ)
inner_of [] = None
inner_of (byte ∷ bytes) = if byte == 39 then single_quoted bytes else double_quoted bytes

-- `''` is one quote
unfoldable pub single_text : List ℕ → List ℕ
single_text [] = []
single_text (byte ∷ []) = byte ∷ []
single_text (byte ∷ next ∷ bytes) = if byte == 39 then byte ∷ single_text bytes else byte ∷ single_text (next ∷ bytes)

-- what a backslash and a character stand for: `\"`, `\\`, `\/`, `\n` and `\t`
abbrev pub escaped : ℕ → Option ℕ
escaped byte =
    if byte == 34 || byte == 92 || byte == 47 then Some byte
    else (if byte == 110 then Some 10
    else (if byte == 116 then Some 9
    else None))

abbrev pub first_byte : ℕ → Result (List ℕ) ℕ → Result (List ℕ) ℕ
first_byte byte (Ok text) = Ok (byte ∷ text)
first_byte byte (Err at) = Err at

abbrev pub escape_at : (at : ℕ) → Option ℕ → Result (List ℕ) ℕ → Result (List ℕ) ℕ
escape_at at None text = Err at
escape_at at (Some byte) text = first_byte byte text

-- What the inside of double quotes stands for, or the place of the first backslash before another character. `at` is the place of the first byte.
unfoldable pub double_text : (at : ℕ) → List ℕ → Result (List ℕ) ℕ
double_text at [] = Ok []
double_text at (byte ∷ []) = if byte == 92 then Err at else Ok (byte ∷ [])
double_text at (byte ∷ next ∷ bytes) =
    if byte == 92 then escape_at at (escaped next) (double_text (at + 2) bytes)
    else first_byte byte (double_text (at + 1) (next ∷ bytes))

abbrev pub text_within : (single : Bool) → List ℕ → Result (List ℕ) ℕ
text_within single inner = if single then Ok (single_text inner) else double_text 1 inner

abbrev pub quoted_to : Rest → (inside : ℕ) → Result (List ℕ) ℕ → Result (Tree × Rest) YamlEnd
quoted_to r inside (Ok text) = Ok (trees.Scalar (place r) text, on (inside + 2) r)
quoted_to r inside (Err at) = Err (OutOfProfile (place (on at r)) Escape)

-- the quoted scalar that begins at a point, with so many bytes between its quotes
abbrev pub quoted : Rest → (single : Bool) (inside : ℕ) → Result (Tree × Rest) YamlEnd
quoted r single inside = quoted_to r inside (text_within single (take inside (drop 1 r.here)))
