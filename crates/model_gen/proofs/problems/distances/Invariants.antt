use Rattle.std.proofs.Common.{◌≡◌, ◌++◌, ◌<◌, drop}
use Rattle.model_gen.specs.Draws.{after}
use Rattle.model_gen.specs.Texts.{distances_from}
use Rattle.model_gen.proofs.problems.distances.Given as goal

abbrev pub invariant-loop-way : goal.invariant-loop-way
invariant-loop-way l =
    (l.generator.x < 2147483647)
    × (l.generator.x ≡ after l.seed l.way-index)
    × (l.texts.items ++ distances_from l.seed l.way-index (drop l.way-index l.ways) ≡ distances_from l.seed 0 l.ways)
