use Rattle.std.proofs.Common.{◌≡◌, ℕ, List, drop}
use Rattle.std.specs.HashMap.{get_by_text}
use Rattle.std.specs.Option.{option_or}
use Rattle.dypdl_words.specs.Scopes.{variable_named}
use Rattle.dypdl_words.proofs.names.push_variables.Given as goal

-- what is left decides the rest
abbrev pub invariant-loop-at : goal.invariant-loop-at
invariant-loop-at l = (word : List ℕ) → option_or (get_by_text l.names word) (variable_named l.at (drop l.at l.variables) word) ≡ option_or (get_by_text l.fn.names word) (variable_named 0 l.variables word)
