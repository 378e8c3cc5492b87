-- What begins at a point where a node or a key must begin, and how it is refused there.
use Rattle.std.specs.Prelude.{ℕ, Bool, not, ◌&&◌, ◌||◌, ◌==◌, if◌then◌else◌, List, [], ◌∷◌, length, drop, Option, None, Some}
use Rattle.dp_base.specs.declared.place.Place.{Place}
use Rattle.dp_base.specs.Bytes.{is_blank}
use Rattle.yaml_tree.specs.Rest.{Rest}
use Rattle.yaml_tree.specs.Characters.{begins, begins_plain, is_clear}
use Rattle.yaml_tree.specs.Scalars.{inner_of}
use Rattle.yaml_tree.specs.declared.tree.Feature.TheVariants.{Anchor, Alias, Tag, QuestionKey, BlockScalar}
use Rattle.yaml_tree.specs.declared.opening.Opening.{Opening}
use Rattle.yaml_tree.specs.declared.opening.Opening.TheVariants.{Plain, Quoted, OpenQuote, FlowList, FlowMap, Header, Outside, Nothing}
use Rattle.yaml_tree.specs.declared.header.Style.{Style}
use Rattle.yaml_tree.specs.declared.header.Style.TheVariants.{Literal, Folded}
use Rattle.yaml_tree.specs.declared.header.Chomping.{Chomping}
use Rattle.yaml_tree.specs.declared.header.Chomping.TheVariants.{Strip, Clip, Keep}
use Rattle.yaml_tree.specs.declared.tree.YamlEnd.{YamlEnd}
use Rattle.yaml_tree.specs.declared.tree.YamlEnd.TheVariants.{BadQuote, Unread, TooDeep}

abbrev pub quote_opening : (single : Bool) → Option (List ℕ) → Opening
quote_opening single (Some inner) = Quoted single (length inner)
quote_opening single None = OpenQuote

-- A `?` stands before a blank. `ragged` says that blanks follow the end of these bytes. A `?` that ends its line with no
-- blank behind it begins nothing.
abbrev pub before_blank : (ragged : Bool) → List ℕ → Bool
before_blank ragged [] = ragged
before_blank ragged (byte ∷ bytes) = is_blank byte

-- The header of a block scalar: `|` or `>`, at most one `-` or `+`, and then no more than blanks, and a comment behind a
-- blank.
abbrev pub style_of : (byte : ℕ) → Style
style_of byte = if byte == 62 then Folded else Literal

abbrev pub begins_sign : List ℕ → Bool
begins_sign bytes = begins 45 bytes || begins 43 bytes

abbrev pub chomping_of : List ℕ → Chomping
chomping_of bytes = if begins 45 bytes then Strip else (if begins 43 bytes then Keep else Clip)

-- these bytes make a header behind `|` or `>`
abbrev pub is_header : List ℕ → Bool
is_header bytes = is_clear (if begins_sign bytes then drop 1 bytes else bytes)

-- A block scalar stands in block style, and is no key.
abbrev pub header_opening : (flow maps : Bool) → (byte : ℕ) → List ℕ → Opening
header_opening flow maps byte bytes = if not flow && maps && is_header bytes then Header (style_of byte) (chomping_of bytes) else Outside BlockScalar

-- What begins with this character. `maps` is false where only a key may stand, since a flow map is no key.
abbrev pub opening_with : (flow maps ragged : Bool) → ℕ → List ℕ → Opening
opening_with flow maps ragged byte bytes =
    if byte == 34 || byte == 39 then quote_opening (byte == 39) (inner_of (byte ∷ bytes))
    else (if byte == 91 then FlowList
    else (if byte == 123 then (if maps then FlowMap else Nothing)
    else (if byte == 38 then Outside Anchor
    else (if byte == 42 then Outside Alias
    else (if byte == 33 then Outside Tag
    else (if byte == 124 || byte == 62 then header_opening flow maps byte bytes
    else (if begins_plain flow (byte ∷ bytes) then Plain
    else (if byte == 63 && before_blank ragged bytes then Outside QuestionKey
    else Nothing))))))))

abbrev pub opening_of : (flow maps ragged : Bool) → List ℕ → Opening
opening_of flow maps ragged [] = Nothing
opening_of flow maps ragged (byte ∷ bytes) = opening_with flow maps ragged byte bytes

abbrev pub opening : (flow maps : Bool) → Rest → Opening
opening flow maps r = opening_of flow maps r.ragged r.here

-- How it is refused at depth 65: an open quote goes first, and where nothing begins there is no node that could be too deep.
abbrev pub deep_end : Place → Opening → YamlEnd
deep_end place OpenQuote = BadQuote place
deep_end place Nothing = Unread place
deep_end place opening = TooDeep place
