use Rattle.std.proofs.Common.{◌≡◌, ◌-◌, length}
use Rattle.cert_check.specs.Wants.{IsRow}
use Rattle.cert_check.proofs.Leaps.{Are}
use Rattle.cert_check.proofs.wants.rows_of.Given as goal

-- each row so far is one, and so is the last of them that was made
abbrev pub invariant-loop-done : goal.invariant-loop-done
invariant-loop-done l = (length l.rows.items ≡ length l.model.dp_ground) × Are l.model l.rows.items × IsRow l.model (length l.model.dp_ground - l.done) l.behind
