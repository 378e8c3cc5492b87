-- What the functions of block style hand out.
use Rattle.std.specs.Prelude.{◌≡◌, ℕ, ◌-◌, ◌&&◌, ◌==◌, Bool, true, false, List, [], ◌∷◌, ◌++◌, Option, None, Some, Result, Ok, Err}
use Rattle.dp_base.specs.declared.place.Place.{Place}
use Rattle.yaml_tree.specs.Rest.{Rest, skip_blanks}
use Rattle.yaml_tree.specs.Characters.{is_colon}
use Rattle.yaml_tree.specs.Scalars.{added, with_text}
use Rattle.yaml_tree.specs.Repeats.{Turn, More, Last, Repeats}
use Rattle.yaml_tree.specs.Flow.{Outcome, Reading, entry, map_made}
use Rattle.yaml_tree.specs.Blocks.{BlockReading, EntryTurn, NextEntry, entry_in, ended, may_be_block_key}
use Rattle.yaml_tree.specs.BlockScalars.{block_scalar}
use Rattle.yaml_tree.specs.Fields.{tree_place}
use Rattle.yaml_tree.specs.Known.{Knows}
use Rattle.yaml_tree.specs.declared.keys.Keys.{Keys}
use Rattle.yaml_tree.specs.declared.opening.Opening.{Opening}
use Rattle.yaml_tree.specs.declared.opening.Opening.TheVariants.{Plain, Header}
use Rattle.yaml_tree.specs.declared.tree.Tree.{Tree}
use Rattle.yaml_tree.specs.declared.tree.Tree as trees
use Rattle.yaml_tree.specs.declared.tree.Tree.TheVariants as variants
use Rattle.yaml_tree.specs.declared.tree.Pair.{Pair}
use Rattle.yaml_tree.specs.declared.tree.YamlEnd.{YamlEnd}

-- The point went to a line below that was looked for, or there is none and it went elsewhere.
abbrev pub Enters : (entered : Bool) → Option Rest → (elsewhere to : Rest) → Type 0
Enters true found elsewhere to = found ≡ Some to
Enters false found elsewhere to = (found ≡ None) × (to ≡ elsewhere)

-- a form that began on this line may be a key, and its `:` follows
abbrev pub is_key_here : Opening → (line : ℕ) → (to : Rest) → Bool
is_key_here opening line to = may_be_block_key opening (line == to.line) && is_colon (skip_blanks to).here

-- ---- plain scalars over lines

abbrev pub scalar_made : Place → Result (List ℕ × Rest) YamlEnd → Outcome
scalar_made at (Ok x) = Ok (variants.Scalar at x.0, x.1)
scalar_made at (Err e) = Err e

abbrev pub continued_form : (least : ℕ) → trees.Tree-F Tree Pair → (begun : Tree) → Rest → Outcome
continued_form least (trees.Tree-F.Scalar at text) begun to = scalar_made at (with_text text (added false least to))
continued_form least (trees.Tree-F.List at items) begun to = Ok (begun, to)
continued_form least (trees.Tree-F.Map at entries) begun to = Ok (begun, to)

-- a plain scalar of which the first line was read up to a point
abbrev pub continued : (least : ℕ) → (begun : Tree) → Rest → Outcome
continued least begun to = continued_form least (trees.out-Tree begun) begun to

-- a whole scalar or flow form of which the beginning in its line was read up to a point
abbrev pub whole_from : Opening → (least : ℕ) → Tree → Rest → Outcome
whole_from Plain least begun to = ended (continued least begun to)
whole_from (Header style chomping) least begun to = block_scalar style chomping least (tree_place begun) to
whole_from opening least begun to = ended (Ok (begun, to))

-- ---- maps

-- after an entry: the key of the next one, or the map's end
abbrev pub key_turn : Pair → Option Tree → Rest → Turn Pair (Tree × Rest)
key_turn pair None left = Last (pair ∷ []) left
key_turn pair (Some key) left = More pair (key, left)

-- The turn behind an entry, whichever it is and whichever were read before it, so long as their keys are known.
abbrev pub AfterEntry : (levels indent : ℕ) → Keys → (left : Rest) → (Pair → Turn Pair (Tree × Rest)) → Type 0
AfterEntry levels indent keys left turn =
    (before : List Pair) (pair : Pair) → Knows keys (before ++ pair ∷ []) → NextEntry levels before pair left (entry_in indent left left.below) (turn pair)

-- this key is known besides the keys before
abbrev pub AddsKey : Keys → Tree → Keys → Type 0
AddsKey keys key more = (earlier : List Pair) (value : Tree) → Knows keys earlier → Knows more (earlier ++ entry key value ∷ [])

-- a map whose first key begins at a place and was read up to behind its `:`
abbrev pub MapFrom : BlockReading → (levels : ℕ) → Place → (key : Tree) → Reading
MapFrom Node levels at key behind outcome =
    (read : Result (List Pair × Rest) YamlEnd) × Repeats (EntryTurn Node levels (at.column - 1)) (key, behind) read × (outcome ≡ map_made at read)
