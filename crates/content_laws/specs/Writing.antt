-- Trees written as text: flow style on one line.
use Rattle.std.specs.Prelude.{◌≡◌, ℕ, zero, suc, Bool, true, false, not, ◌&&◌, ◌||◌, ◌==◌, if◌then◌else◌, List, [], ◌∷◌, ◌++◌, map, replicate, codes, IsUtf8}
use Rattle.std.specs.List.{All, concat, list_all, list_any, suffix_len}
use Rattle.dp_base.specs.Bytes.{is_blank, is_digit}
use Rattle.dp_base.specs.declared.place.Place.{Place}
use Rattle.yaml_tree.specs.Flow.{entry}
use Rattle.yaml_tree.specs.Keys.{same_key, stands_before}
use Rattle.yaml_tree.specs.Texts.{most_levels, Spells}
use Rattle.yaml_tree.specs.declared.tree.Tree.{Tree}
use Rattle.yaml_tree.specs.declared.tree.Tree as trees
use Rattle.yaml_tree.specs.declared.tree.Tree.TheVariants as made
use Rattle.yaml_tree.specs.declared.tree.Pair.{Pair}
use Rattle.yaml_tree.specs.declared.tree.Pair as pairs

-- How a text is written: `gap` spaces stand at its marks, and scalars stand plain where they may, or all in double quotes.
pub record Style : Type 0 where
  pub gap : ℕ
  pub plain : Bool

-- ---- scalars

-- A byte between double quotes: `"`, `\` and `/` behind a backslash, a line feed as `\n`, a tab as `\t`, and another one by itself.
abbrev pub written_byte : ℕ → List ℕ
written_byte byte =
    if byte == 34 || byte == 92 || byte == 47 then 92 ∷ byte ∷ []
    else (if byte == 10 then 92 ∷ 110 ∷ []
    else (if byte == 9 then 92 ∷ 116 ∷ []
    else byte ∷ []))

abbrev pub between_quotes : List ℕ → List ℕ
between_quotes text = concat (map written_byte text)

abbrev pub is_one_of : List ℕ → ℕ → Bool
is_one_of bytes byte = list_any (λ b. byte == b) bytes

-- A plain scalar is written only where its first byte begins nothing else: it is no blank and no indicator, no `.` and not the
-- first byte of a byte order mark,
abbrev pub is_plain_first : ℕ → Bool
is_plain_first byte = not (is_one_of (239 ∷ codes " \t,[]{}#&*!|>'\"%@`-?:.") byte)

abbrev pub begins_digit : List ℕ → Bool
begins_digit [] = false
begins_digit (byte ∷ bytes) = is_digit byte

-- or where it begins with `-` and a digit;
abbrev pub begins_plainly : List ℕ → Bool
begins_plainly [] = false
begins_plainly (byte ∷ bytes) = is_plain_first byte || (byte == 45 && begins_digit bytes)

-- where no byte may end it,
abbrev pub is_plain_byte : ℕ → Bool
is_plain_byte byte = not (is_one_of (codes "#:,[]{}\n\r") byte)

-- and no blank stands at its end.
abbrev pub may_be_plain : List ℕ → Bool
may_be_plain text = begins_plainly text && (list_all is_plain_byte text && suffix_len is_blank text == 0)

-- a scalar: plain, or in double quotes
abbrev pub scalar_by : (plain : Bool) → List ℕ → List ℕ
scalar_by true text = text
scalar_by false text = 34 ∷ (between_quotes text ++ 34 ∷ [])

-- this scalar stands plain
abbrev pub stands_plain : Style → List ℕ → Bool
stands_plain s text = s.plain && may_be_plain text

-- ---- the text

abbrev pub spaces : ℕ → List ℕ
spaces n = replicate n 32

-- parts with `,` between them, and n spaces behind each `,`
abbrev pub with_commas : (n : ℕ) → List (List ℕ) → List ℕ
with_commas n [] = []
with_commas n (part ∷ []) = part
with_commas n (part ∷ next ∷ parts) = part ++ 44 ∷ (spaces n ++ with_commas n (next ∷ parts))

-- a text between brackets, with n spaces behind the first and before the second
abbrev pub in_brackets : (n first last : ℕ) → List ℕ → List ℕ
in_brackets n first last text = first ∷ (spaces n ++ (text ++ (spaces n ++ last ∷ [])))

-- The items of a list stand in `[` `]`, the entries of a map in `{` `}`.
abbrev pub write_step : Style → trees.Tree-F (List ℕ) (List ℕ) → List ℕ
write_step s (trees.Tree-F.Scalar at text) = scalar_by (stands_plain s text) text
write_step s (trees.Tree-F.List at items) = in_brackets s.gap 91 93 (with_commas s.gap items)
write_step s (trees.Tree-F.Map at entries) = in_brackets s.gap 123 125 (with_commas s.gap entries)

-- Behind `:` stands one space more where keys may be plain, since it is no end of a plain key otherwise.
abbrev pub colon_gap : Style → ℕ
colon_gap s = if s.plain then suc s.gap else s.gap

-- an entry: its key, `:` and spaces, and its value
abbrev pub write_pair_step : Style → pairs.Pair-F (List ℕ) (List ℕ) → List ℕ
write_pair_step s pair = pair.key ++ 58 ∷ (spaces (colon_gap s) ++ pair.value)

-- The text of a tree in flow style on one line, with spaces behind each `[`, `{`, `,` and `:` of its own and before each `]` and `}`.
abbrev pub written : Style → Tree → List ℕ
written s = trees.fold-Tree (List ℕ) (List ℕ) (write_step s) (write_pair_step s)

-- ---- the trees that are written

-- No key equals one before it.
abbrev pub NoneTwice : (before entries : List Pair) → Type 0
NoneTwice before [] = Unit {0}
NoneTwice before (entry ∷ entries) = (stands_before entry.key before ≡ false) × NoneTwice (before ++ entry ∷ []) entries

abbrev pub NoMapForm : trees.Tree-F Tree Pair → Type 0
NoMapForm (trees.Tree-F.Scalar at text) = Unit {0}
NoMapForm (trees.Tree-F.List at items) = Unit {0}
NoMapForm (trees.Tree-F.Map at entries) = ⊥

-- a scalar or a list, which a key is
abbrev pub IsNoMap : Tree → Type 0
IsNoMap tree = NoMapForm (trees.out-Tree tree)

-- a scalar whose text is UTF-8, a list, or a map whose keys are no maps and differ
abbrev pub WritableForm : (Node : Tree → Type 0) → trees.Tree-F Tree Pair → Type 0
WritableForm Node (trees.Tree-F.Scalar at text) = IsUtf8 text
WritableForm Node (trees.Tree-F.List at items) = All Node items
WritableForm Node (trees.Tree-F.Map at entries) =
    All (λ (entry : Pair). Node entry.key × IsNoMap entry.key × Node entry.value) entries × NoneTwice [] entries

-- a tree of at most so many levels
unfoldable pub IsWritableIn : (levels : ℕ) → Tree → Type 0
IsWritableIn zero tree = ⊥
IsWritableIn (suc levels) tree = WritableForm (IsWritableIn levels) (trees.out-Tree tree)

abbrev pub IsWritable : Tree → Type 0
IsWritable tree = IsWritableIn most_levels tree

-- The text of a tree spells a tree that is the same but for places.
abbrev pub LawWritten : Type 0
LawWritten = (file : ℕ) (s : Style) (tree : Tree) → IsWritable tree → (read : Tree) × Spells file (written s tree) read × (same_key tree read ≡ true)

-- It spells no other tree.
abbrev pub LawAlone : Type 0
LawAlone = (file : ℕ) (s : Style) (tree : Tree) → IsWritable tree → (read : Tree) → Spells file (written s tree) read → same_key tree read ≡ true

-- ---- a tree that is written

abbrev pub scalar : Place → List ℕ → Tree
scalar at text = made.Scalar at text

-- {"a\tb": ["\n", [], "é"], ["1", "2"]: {"\"": ""}}
abbrev pub sample : Place → Tree
sample at =
    made.Map at (
    entry (scalar at (codes "a\tb")) (made.List at (scalar at (codes "\n") ∷ made.List at [] ∷ scalar at (195 ∷ 169 ∷ []) ∷ []))
    ∷ entry (made.List at (scalar at (codes "1") ∷ scalar at (codes "2") ∷ [])) (made.Map at (entry (scalar at (codes "\"")) (scalar at []) ∷ [])) ∷ [])

abbrev pub compact : Style
compact = record { gap = 0; plain = false }

abbrev pub wide : Style
wide = record { gap = 1; plain = true }

-- It may be written, and so it looks.
abbrev pub LawSample : Type 0
LawSample = (at : Place) → IsWritable (sample at)
    × (written compact (sample at) ≡ codes "{\"a\\tb\":[\"\\n\",[],\"" ++ 195 ∷ 169 ∷ codes "\"],[\"1\",\"2\"]:{\"\\\"\":\"\"}}")
    × (written wide (sample at) ≡ codes "{ a\tb:  [ \"\\n\", [  ], " ++ 195 ∷ 169 ∷ codes " ], [ 1, 2 ]:  { \"\\\"\":  \"\" } }")
