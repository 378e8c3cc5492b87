use Rattle.std.proofs.Common.{◌≡◌, ◌++◌, ◌≤◌, drop}
use Rattle.state_layout.specs.Slots.{slots_from, slots_of}
use Rattle.state_layout.proofs.layout.slots_for.Given as goal

-- the slots so far and those of the variables that are left are all
abbrev pub invariant-loop-variable : goal.invariant-loop-variable
invariant-loop-variable l = (l.slots.items ++ slots_from l.model.objects l.sets l.rank (drop l.variable-index l.variable-items) ≡ slots_of l.model.objects l.model.variables) × (l.rank ≤ l.variable-index)
