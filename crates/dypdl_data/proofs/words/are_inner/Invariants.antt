use Rattle.std.proofs.Common.{◌≡◌, drop}
use Rattle.std.specs.List.{list_all}
use Rattle.dypdl_expr.specs.Tokens.{is_inner}
use Rattle.dypdl_data.proofs.words.are_inner.Given as goal

abbrev pub invariant-loop-byte : goal.invariant-loop-byte
invariant-loop-byte l = list_all is_inner (drop l.byte-index l.bytes) ≡ list_all is_inner l.bytes
