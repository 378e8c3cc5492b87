use Rattle.std.proofs.Common.{◌≡◌, ◌≤◌, take}
use Rattle.state_layout.specs.Slots.{sets_among}
use Rattle.state_layout.proofs.layout.sets_among.Given as goal

abbrev pub invariant-loop-variable : goal.invariant-loop-variable
invariant-loop-variable l = (l.sets ≡ sets_among (take l.variable-index l.variables)) × (l.sets ≤ l.variable-index)
