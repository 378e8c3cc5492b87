-- Block scalars: the lines below a header `|` or `>`, behind the indent of the first of them that is not blank.
use Rattle.std.specs.Prelude.{ℕ, ◌-◌, Bool, false, not, ◌&&◌, ◌||◌, ◌==◌, if◌then◌else◌, nat_lt, List, [], ◌∷◌, ◌++◌, length, take, drop, replicate, Option, None, Some, Ok, Err}
use Rattle.std.specs.List.{find, suffix_len, take_while}
use Rattle.dp_base.specs.declared.place.Place.{Place}
use Rattle.yaml_tree.specs.Rest.{Row, Rest, place, front}
use Rattle.yaml_tree.specs.Lines.{is_empty, settle}
use Rattle.yaml_tree.specs.Flow.{Outcome}
use Rattle.yaml_tree.specs.declared.header.Style.{Style}
use Rattle.yaml_tree.specs.declared.header.Style.TheVariants.{Literal, Folded}
use Rattle.yaml_tree.specs.declared.header.Chomping.{Chomping}
use Rattle.yaml_tree.specs.declared.header.Chomping.TheVariants.{Strip, Clip, Keep}
use Rattle.yaml_tree.specs.declared.tree.Tree.TheVariants as trees
use Rattle.yaml_tree.specs.declared.tree.Feature.TheVariants.{BlockScalar}
use Rattle.yaml_tree.specs.declared.tree.YamlEnd.TheVariants.{Unread, OutOfProfile}

abbrev pub is_blank_row : Row → Bool
is_blank_row row = is_empty row.text

-- ---- the lines of the content

-- a line of the content: a blank one, or one that stands deeper than the block. `least` is one more than the block's indent.
abbrev pub in_content : (least : ℕ) → Row → Bool
in_content least row = is_blank_row row || not (nat_lt row.indent least)

-- the content: the lines up to the first one that is not blank and stands no deeper than the block
abbrev pub content_of : (least : ℕ) → List Row → List Row
content_of least rows = take_while (in_content least) rows

-- the content's indent: that of its first line that is not blank
abbrev pub content_indent : List Row → ℕ
content_indent [] = 0
content_indent (row ∷ rows) = if is_blank_row row then content_indent rows else row.indent

-- a line that is not blank and stands less deep
abbrev pub is_shallow : (indent : ℕ) → Row → Bool
is_shallow indent row = not (is_blank_row row) && nat_lt row.indent indent

-- ---- the text

-- what a line gives: what stands behind the content's indent
abbrev pub line_text : (indent : ℕ) → Row → List ℕ
line_text indent row = if is_blank_row row then [] else replicate (row.indent - indent) 32 ++ row.text

-- the first of these lines that is not blank stands at the content's indent
abbrev pub stands : (indent : ℕ) → List Row → Bool
stands indent [] = false
stands indent (row ∷ rows) = if is_blank_row row then stands indent rows else row.indent == indent

-- a line that is not blank, at the content's indent
abbrev pub is_even : (indent : ℕ) → Row → Bool
is_even indent row = not (is_blank_row row) && row.indent == indent

-- the break between a line and the lines below it is folded: with `>`, between two lines at the content's indent
abbrev pub folds : Style → (indent : ℕ) → Row → List Row → Bool
folds Literal indent row below = false
folds Folded indent row below = is_even indent row && stands indent below

-- What a break gives: a line feed; folded a space, or nothing where blank lines follow, whose own breaks give a line feed each.
abbrev pub break_behind : Style → (indent : ℕ) → Row → List Row → List ℕ
break_behind style indent row [] = []
break_behind style indent row (next ∷ rows) = if folds style indent row (next ∷ rows) then (if is_blank_row next then [] else 32 ∷ []) else 10 ∷ []

-- lines with the breaks between them
unfoldable pub joined : Style → (indent : ℕ) → List Row → List ℕ
joined style indent [] = []
joined style indent (row ∷ rows) = line_text indent row ++ (break_behind style indent row rows ++ joined style indent rows)

-- the break behind the last of these lines
abbrev pub last_break : List Row → List ℕ
last_break [] = []
last_break (row ∷ rows) = 10 ∷ []

-- these lines without the blank ones at their end
abbrev pub trimmed : List Row → List Row
trimmed rows = take (length rows - suffix_len is_blank_row rows) rows

-- The end of the text: none with `-`; a break without a sign; with `+` that and the blank lines.
abbrev pub block_text : Style → Chomping → (indent : ℕ) → List Row → List ℕ
block_text style Strip indent rows = joined style indent (trimmed rows)
block_text style Clip indent rows = joined style indent (trimmed rows) ++ last_break (trimmed rows)
block_text style Keep indent rows = joined style indent rows ++ last_break rows

-- ---- the scalar

-- The scalar with this content, at a place, and what is left below. A line that stands less deep than the first is not read.
abbrev pub with_content : Style → Chomping → Place → Rest → (content : List Row) → Option Row → Outcome
with_content style chomping at r content (Some row) = Err (Unread (place (front r row [])))
with_content style chomping at r content None =
    Ok (trees.Scalar at (block_text style chomping (content_indent content) content), settle (record r { below = drop (length content) r.below }))

-- The block scalar at a place, whose header's line was read up to a point. It has a block round it: as the whole file it is
-- out of the profile.
abbrev pub block_scalar : Style → Chomping → (least : ℕ) → Place → Rest → Outcome
block_scalar style chomping least at r =
    if least == 0 then Err (OutOfProfile at BlockScalar)
    else (let content : List Row = content_of least r.below in with_content style chomping at r content (find (is_shallow (content_indent content)) content))
