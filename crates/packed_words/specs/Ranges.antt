-- What a `forall` ranges over.
use Rattle.std.specs.Prelude.{ℕ, ◌≤◌, Bool, true, IsTrue, List}
use Rattle.std.specs.List.{range_with_len}
use Rattle.bit_sets.specs.Sets.{members_of}
use Rattle.dp_model.specs.Typing.{is_set_kind, kind_at}
use Rattle.dp_model.specs.Evaluation.{set_in}
use Rattle.dp_model.specs.declared.trees.Over.{Over}
use Rattle.dp_model.specs.declared.trees.Over.TheVariants.{Object, Members}
use Rattle.dp_model.specs.declared.parts.PlainState.{PlainState}
use Rattle.dp_model.specs.declared.whole.Model.{Model}
use Rattle.packed_words.specs.Sets.{one_word}
use Rattle.packed_words.specs.declared.ranges.Range.{Range}
use Rattle.packed_words.specs.declared.ranges.Range.TheVariants.{Whole, Word, Wide}

-- the members, in a state
abbrev pub range_members : PlainState → Range → List ℕ
range_members s (Whole count) = range_with_len 0 count
range_members s (Word word) = members_of (one_word word)
range_members s (Wide v) = set_in s v

-- an object type has no more members than a model may have, and a variable holds a set
abbrev pub IsRange : Model → Range → Type 0
IsRange m (Whole count) = count ≤ 4096
IsRange m (Word word) = Unit {0}
IsRange m (Wide v) = IsTrue (is_set_kind (kind_at m.variables v))

-- a variable that a parameter ranges over holds a set
abbrev pub over_fits : Model → Over → Bool
over_fits m (Object object) = true
over_fits m (Members v) = is_set_kind (kind_at m.variables v)
