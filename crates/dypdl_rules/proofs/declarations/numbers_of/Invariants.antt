use Rattle.std.proofs.Common.{◌≡◌, ℕ, List, drop}
use Rattle.std.specs.HashMap.{get_by_text}
use Rattle.std.specs.List.{position_from}
use Rattle.std.specs.Option.{option_or}
use Rattle.std.specs.Str.{bytes_eq}
use Rattle.dypdl_data.specs.Objects.{object_names}
use Rattle.dypdl_rules.proofs.declarations.numbers_of.Given as goal

-- what is left decides the rest
abbrev pub invariant-loop-at : goal.invariant-loop-at
invariant-loop-at l = (word : List ℕ) → option_or (get_by_text l.numbers word) (position_from (bytes_eq word) l.at (object_names (drop l.at l.objects))) ≡ position_from (bytes_eq word) 0 (object_names l.objects)
