use Rattle.std.proofs.Common.{◌≡◌, drop, map}
use Rattle.honest_preferences.specs.Leaving.{all_leave, over_leaves}
use Rattle.honest_preferences.proofs.effects.params_leave.Given as goal

-- what is left decides
abbrev pub invariant-loop-over : goal.invariant-loop-over
invariant-loop-over l = all_leave (map (over_leaves l.kept) (drop l.over-index l.params)) ≡ all_leave (map (over_leaves l.kept) l.params)
