use Rattle.std.proofs.Common.{arith}
use Rattle.packed_eval.proofs.Ways.{same_front}
use Rattle.packed_eval.proofs.calls.write_params.Goals as goal

pub returns-clause-value : goal.returns-clause-value
returns-clause-value c = same_front c.args.values.now c.loop-k.params (omega (arith, c.requires)) (λ j h. c.loop-k.invariant j (omega arith))

pub returns-clause-small : goal.returns-clause-small
returns-clause-small c = record { each = λ p. (c.type_inv.values p).fits }
