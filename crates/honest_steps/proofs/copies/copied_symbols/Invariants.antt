use Rattle.std.proofs.Common.{◌≡◌, take}
use Rattle.honest_steps.proofs.copies.copied_symbols.Given as goal

abbrev pub invariant-loop-symbol : goal.invariant-loop-symbol
invariant-loop-symbol l = l.same.items ≡ take l.symbol-index l.symbols
