use Rattle.std.proofs.Common.{length, ◌-◌, ◌+◌, ◌≡◌, ◌≤◌, true, drop}
use Rattle.std.specs.List.{prefix_len}
use Rattle.dypdl_expr.specs.Tokens.{tokens_from, is_inner}
use Rattle.dypdl_expr.proofs.tokens.word_end.Given as goal

abbrev pub invariant-loop-end : goal.invariant-loop-end
invariant-loop-end l = record {
  in_text : l.end ≤ length l.bytes;
  run : l.from + prefix_len is_inner (drop l.from l.bytes) ≡ l.end + prefix_len is_inner (drop l.end l.bytes);
  same : tokens_from true l.from (drop l.from l.bytes) ≡ tokens_from true l.end (drop l.end l.bytes);
}

abbrev pub decreases-loop-end : goal.decreases-loop-end
decreases-loop-end l = length l.bytes - l.end
