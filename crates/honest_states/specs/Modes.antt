-- What is known of the variables of a state, as tests.
use Rattle.std.specs.Prelude.{ℕ, suc, Bool, true, false, not, ◌&&◌, List, [], ◌∷◌, slice_get, Option, Some, None, ℤ, int_le}
use Rattle.std.specs.List.{list_any}
use Rattle.dp_model.specs.Evaluation.{has, number_held, set_held}
use Rattle.dp_model.specs.declared.parts.PlainState.{PlainState}
use Rattle.dp_model.specs.declared.parts.PlainValue.{PlainValue}
use Rattle.poly_terms.specs.declared.spans.Span.{Span}
use Rattle.honest_states.specs.declared.mode.Known.{Known}
use Rattle.honest_states.specs.declared.mode.Known.TheVariants.{Number, Members}
use Rattle.honest_states.specs.declared.mode.Mode.{Mode}
use Rattle.honest_states.specs.declared.mode.Narrowed.{Narrowed}
use Rattle.honest_states.specs.declared.mode.Narrowed.TheVariants.{Never, To}

-- a number is not below an end, if that is known
abbrev pub is_from : Option ℤ → ℤ → Bool
is_from None x = true
is_from (Some low) x = int_le low x

-- a number is not above an end, if that is known
abbrev pub is_to : Option ℤ → ℤ → Bool
is_to None x = true
is_to (Some high) x = int_le x high

abbrev pub is_between : Span → ℤ → Bool
is_between span x = is_from span.low x && is_to span.high x

-- whether a member is in a set, where that is known: surely in, or surely out
abbrev pub is_so : Option Bool → Bool → Bool
is_so None b = true
is_so (Some true) b = b
is_so (Some false) b = not b

-- a set is as is known of each member from this one on
abbrev pub are_so : List (Option Bool) → ℕ → List ℕ → Bool
are_so [] j set = true
are_so (x ∷ xs) j set = is_so x (has set j) && are_so xs (suc j) set

-- A variable holds what is known of it: a number between the ends, or a set as is known of its members.
abbrev pub is_known : Known → Option PlainValue → Bool
is_known (Number span) held = is_between span (number_held held)
is_known (Members members) held = are_so members 0 (set_held held)

-- the variables from this one on hold what is known of them
abbrev pub are_known : List Known → ℕ → PlainState → Bool
are_known [] i s = true
are_known (x ∷ xs) i s = is_known x (slice_get s.values i) && are_known xs (suc i) s

-- a state is in a mode: each of its variables holds what the mode knows
abbrev pub in_mode : Mode → PlainState → Bool
in_mode mode s = are_known mode.known 0 s

abbrev pub in_some : List Mode → PlainState → Bool
in_some modes s = list_any (λ mode. in_mode mode s) modes

-- a state is in what a mode was narrowed to; none is where that is never
abbrev pub in_narrowed : Narrowed → PlainState → Bool
in_narrowed Never s = false
in_narrowed (To mode) s = in_mode mode s

-- the same for what one variable holds
abbrev pub is_still : Option Known → Option PlainValue → Bool
is_still None held = false
is_still (Some known) held = is_known known held
