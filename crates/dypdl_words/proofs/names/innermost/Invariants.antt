use Rattle.std.proofs.Common.{◌≡◌, drop}
use Rattle.std.specs.Option.{option_or}
use Rattle.dypdl_words.specs.Scopes.{innermost}
use Rattle.dypdl_words.proofs.names.innermost.Given as goal

-- what is left decides the rest
abbrev pub invariant-loop-at : goal.invariant-loop-at
invariant-loop-at l = option_or (innermost l.at (drop l.at l.params) l.word) l.found ≡ innermost 0 l.params l.word
