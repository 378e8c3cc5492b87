use Rattle.std.proofs.Common.{◌≡◌, drop, map}
use Rattle.honest_preferences.specs.Leaving.{all_leave, leaves_cond}
use Rattle.honest_preferences.proofs.easing.all_leave.Given as goal

-- what is left decides
abbrev pub invariant-loop-condition : goal.invariant-loop-condition
invariant-loop-condition l = all_leave (map (leaves_cond l.kept) (drop l.condition-index l.conditions)) ≡ all_leave (map (leaves_cond l.kept) l.conditions)
