use Rattle.std.proofs.Common.{arith}
use Rattle.packed_words.proofs.Packs.{zero_members, zero_clean, zero_words}
use Rattle.packed_eval.proofs.sums.clear.Goals as goal

pub returns-clause-members : goal.returns-clause-members
returns-clause-members c = zero_members c.loop-k.out (zero_words c.loop-k.out (λ j h. c.loop-k.invariant j (omega arith)))

pub returns-clause-clean : goal.returns-clause-clean
returns-clause-clean c = λ count. zero_clean count c.loop-k.out (zero_words c.loop-k.out (λ j h. c.loop-k.invariant j (omega arith)))
