use Rattle.std.proofs.Common.{◌≡◌}
use Rattle.std.specs.Vec.Iter.{into_iter_items}
use Rattle.dp_steps.specs.States.{with_changes}
use Rattle.spot_eval.proofs.changes.set_values.Given as goal

-- what is left decides
abbrev pub invariant-loop-variable : goal.invariant-loop-variable
invariant-loop-variable l = with_changes l.values.items (into_iter_items l.variable-iterator) ≡ with_changes l.fn.values.items l.fn.changes.items
