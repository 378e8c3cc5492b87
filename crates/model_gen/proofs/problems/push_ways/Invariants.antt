use Rattle.std.proofs.Common.{◌≡◌, ◌++◌}
use Rattle.model_gen.specs.Texts.{ways_to}
use Rattle.model_gen.proofs.problems.push_ways.Given as goal

abbrev pub invariant-loop-to : goal.invariant-loop-to
invariant-loop-to l = l.ways.items ≡ l.initial.ways.items ++ ways_to l.from l.to
