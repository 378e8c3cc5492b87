-- How words give a state. Word 0 has the number of variables in its low 16 bits. Bit 16 + i of the words, counted through, is
-- set where variable i holds a set; these bits and the number are the head. After it stands a row of one word for each variable:
-- its number, in two's complement, or the first word of its set. Then come rows of one word for each set: the first of these
-- has the second word of each, and so on. A word past the end is 0, so how many rows there are changes nothing.
use Rattle.std.specs.Prelude.{ℕ, ◌+◌, ◌-◌, ◌*◌, ◌/◌, ◌%◌, ◌==◌, ◌≤◌, if◌then◌else◌, Bool, true, false, ◌||◌, List, map, length, slice_index}
use Rattle.std.specs.Int.{bit_at, cast_signed, w64}
use Rattle.std.specs.List.{filter, range_with_len}
use Rattle.bit_sets.specs.Sets.{has_bit, members_where}
use Rattle.dp_model.specs.declared.parts.VarKind.{VarKind}
use Rattle.dp_model.specs.declared.parts.VarKind.TheVariants as kinds
use Rattle.dp_model.specs.declared.parts.PlainValue.{PlainValue}
use Rattle.dp_model.specs.declared.parts.PlainValue.TheVariants.{Number, Members}
use Rattle.dp_model.specs.declared.parts.PlainState.{PlainState}

-- how many variables there are
unfoldable pub count_in : List ℕ → ℕ
count_in words = slice_index words 0 % 65536

-- whether the variable at a place holds a set
unfoldable pub holds_set : List ℕ → ℕ → Bool
holds_set words place = has_bit words (16 + place)

-- how many of the variables before a place hold sets
unfoldable pub rank_in : List ℕ → ℕ → ℕ
rank_in words place = length (filter (holds_set words) (range_with_len 0 place))

-- how many of all
abbrev pub sets_in : List ℕ → ℕ
sets_in words = rank_in words (count_in words)

-- how many words the head has
abbrev pub head_of : ℕ → ℕ
head_of count = (count + 79) / 64

-- where the one word of a number stands, or the first of a set
abbrev pub first_place : (count place : ℕ) → ℕ
first_place count place = head_of count + place

-- where the word with a number stands of a set that so many come before of so many, from the second word on
abbrev pub further_place : (count sets rank number : ℕ) → ℕ
further_place count sets rank number = head_of count + count + ((number - 1) * sets + rank)

-- where the word with a number stands of the variable at a place
unfoldable pub word_place : List ℕ → (place number : ℕ) → ℕ
word_place words place number = if number == 0 then first_place (count_in words) place else further_place (count_in words) (sets_in words) (rank_in words place) number

-- The word with a number of the variable at a place. A variable that holds a number has the first alone.
unfoldable pub word_in : List ℕ → (place number : ℕ) → ℕ
word_in words place number = if (number == 0 || holds_set words place) then slice_index words (word_place words place number) else 0

-- whether the set of the variable at a place has a member
unfoldable pub has_member : List ℕ → (place : ℕ) → ℕ → Bool
has_member words place m = bit_at (word_in words place (m / 64)) (m % 64) == 1

abbrev pub members_in : List ℕ → ℕ → List ℕ
members_in words place = members_where (64 * length words) (has_member words place)

unfoldable pub value_in : List ℕ → ℕ → PlainValue
value_in words place = if holds_set words place then Members (members_in words place) else Number (cast_signed w64 (word_in words place 0))

-- the state that words are
abbrev pub state_in : List ℕ → PlainState
state_in words = record { values = map (value_in words) (range_with_len 0 (count_in words)) }

-- the first row is there
abbrev pub HasFirstRow : List ℕ → Type 0
HasFirstRow words = head_of (count_in words) + count_in words ≤ length words

abbrev pub is_set : VarKind → Bool
is_set (kinds.Set object) = true
is_set (kinds.Element object) = false
is_set kinds.Integer = false
