use Rattle.std.proofs.Common.{◌≡◌, ◌*◌, ◌<◌}
use Rattle.model_gen.specs.Draws.{after}
use Rattle.model_gen.specs.Texts.{first_draws, second_draws}
use Rattle.model_gen.proofs.draws.draw_pairs.Given as goal

-- two draws for each one that is done
abbrev pub invariant-loop-done : goal.invariant-loop-done
invariant-loop-done l =
    (l.generator.x < 2147483647)
    × (l.generator.x ≡ after l.seed (2 * l.done))
    × (l.first.items ≡ first_draws l.done l.seed)
    × (l.second.items ≡ second_draws l.done l.seed)
