use Rattle.std.proofs.Common.{◌≡◌, ◌++◌, drop}
use Rattle.kept_model.specs.Parts.{preferences_in}
use Rattle.kept_model.proofs.parts.push_preferences.Given as goal

abbrev pub invariant-loop-variable : goal.invariant-loop-variable
invariant-loop-variable l = l.parts.items ++ preferences_in l.left (drop l.variable-index l.variables) ≡ l.initial.parts.items ++ preferences_in l.initial.left l.variables
