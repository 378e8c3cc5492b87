use Rattle.std.proofs.Common.{refl, arith}
use Rattle.std.proofs.lemmas.Grind.{common_steps}
use Rattle.dypdl_ground.proofs.Lengths.{many_with, few_with}
use Rattle.dypdl_ground.proofs.grounding.push_grounded.Goals as goal

pub returns-then-not-has_room-clause-too_many : goal.returns-then-not-has_room-clause-too_many
returns-then-not-has_room-clause-too_many c =
    (refl, many_with c.args.objects.now c.args.variables.now c.args.transition c.args.t.now c.args.grounds.now.items c.in_ok-counts.counts.items c.in_ok-counts.ensures (grind (arith, common_steps)))

pub returns-clause-few : goal.returns-clause-few
returns-clause-few c =
    rw (c.in_ok-push_all.ensures, c.in_ok-ways.ensures, c.deref-2.ensures.value, c.in_ok-counts.ensures)
    (few_with c.args.objects.now c.args.variables.now c.args.transition c.args.t.now c.args.grounds.now.items c.in_ok-counts.counts.items c.in_ok-counts.ensures (grind (arith, common_steps)))
