use Rattle.std.proofs.Common.{arith}
use Rattle.dp_outside.proofs.Steps.{Takes-step}
use Rattle.dp_outside.proofs.writing.put_all.Goals as goal

pub loop-done-preserved : goal.loop-done-preserved
loop-done-preserved g c = record {
  within = omega (arith, c.in_ok-done.ensures.some);
  front = Takes-step _ _ _ c.args.piece.now c.loop-done.done c.in_ok-done.field-0 c.loop-done.invariant.front c.in_ok-done.ensures.ok;
  count = omega arith;
}
