-- The values of a state that stay where others are changed.
use Rattle.std.specs.Prelude.{ℕ, ◌+◌, ◌==◌, pos, Bool, false, ◌||◌, List, [], ◌∷◌, if◌then◌else◌}
use Rattle.dp_model.specs.declared.parts.PlainValue.{PlainValue}
use Rattle.dp_model.specs.declared.parts.PlainValue.TheVariants.{Number}

-- one of the changes is of this variable
abbrev pub is_changed : List (ℕ × PlainValue) → ℕ → Bool
is_changed [] v = false
is_changed (change ∷ changes) v = (change.0 == v) || is_changed changes v

-- the value, or 0 where it is to be changed
abbrev pub unchanged : (changes : Bool) → PlainValue → PlainValue
unchanged changes x = if changes then Number (pos 0) else x

-- the values of the variables from one on
abbrev pub unchanged_from : List (ℕ × PlainValue) → ℕ → List PlainValue → List PlainValue
unchanged_from changes v [] = []
unchanged_from changes v (x ∷ xs) = unchanged (is_changed changes v) x ∷ unchanged_from changes (v + 1) xs
