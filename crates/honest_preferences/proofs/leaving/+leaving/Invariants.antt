use Rattle.std.proofs.Common.{◌≡◌, drop, map}
use Rattle.honest_preferences.specs.Leaving.{all_leave, leaves_arg, leaves_num}
use Rattle.honest_preferences.proofs.leaving.+leaving.Given as goal

-- what is left decides

abbrev pub invariant-leaves_nums-loop-n : goal.invariant-leaves_nums-loop-n
invariant-leaves_nums-loop-n l = all_leave (map (leaves_num l.kept) (drop l.n-index l.ns)) ≡ all_leave (map (leaves_num l.kept) l.ns)

abbrev pub invariant-leaves_args-loop-e : goal.invariant-leaves_args-loop-e
invariant-leaves_args-loop-e l = all_leave (map (leaves_arg l.kept) (drop l.e-index l.terms)) ≡ all_leave (map (leaves_arg l.kept) l.terms)
