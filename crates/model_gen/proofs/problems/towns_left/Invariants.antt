use Rattle.std.proofs.Common.{◌≡◌, ◌-◌, map, decimal}
use Rattle.std.specs.List.{range_with_len}
use Rattle.model_gen.proofs.problems.towns_left.Given as goal

abbrev pub invariant-loop-town : goal.invariant-loop-town
invariant-loop-town l = l.texts.items ≡ map decimal (range_with_len 1 (l.town - 1))
