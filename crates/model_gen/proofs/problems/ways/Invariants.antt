use Rattle.std.proofs.Common.{◌≡◌}
use Rattle.std.specs.List.{flat_map, range_with_len}
use Rattle.model_gen.specs.Texts.{others}
use Rattle.model_gen.proofs.problems.ways.Given as goal

abbrev pub invariant-loop-from : goal.invariant-loop-from
invariant-loop-from l = l.list.items ≡ flat_map (others l.size) (range_with_len 0 l.from)
