use Rattle.std.proofs.Common.{length, ◌-◌, ◌≡◌, false, drop}
use Rattle.std.specs.Str.{IsCharBoundary}
use Rattle.dypdl_expr.specs.Tokens.{tokens_from}
use Rattle.dypdl_expr.proofs.tokens.white_end.Given as goal

abbrev pub invariant-loop-end : goal.invariant-loop-end
invariant-loop-end l = record {
  boundary : IsCharBoundary l.bytes l.end;
  same : tokens_from false l.from (drop l.from l.bytes) ≡ tokens_from false l.end (drop l.end l.bytes);
}

abbrev pub decreases-loop-end : goal.decreases-loop-end
decreases-loop-end l = length l.bytes - l.end
