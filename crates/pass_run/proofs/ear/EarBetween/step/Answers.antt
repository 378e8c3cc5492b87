use Rattle.pass_run.proofs.ear.EarBetween.step.Goals as goal

pub loop-preserved : goal.loop-preserved
loop-preserved g c =
    let before = c.loop.invariant in
    record {
      asked = (before.asked.0, c.hear_next.ensures before.asked.0 before.asked.1);
      stays = λ h hears. c.hear_next.ensures h (before.stays h hears);
    }

pub returns-then-not-hear_next : goal.returns-then-not-hear_next
returns-then-not-hear_next g c = λ h hears. c.hear_next.ensures h (c.loop.invariant.stays h hears)
