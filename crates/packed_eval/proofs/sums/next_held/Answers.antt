use Rattle.std.proofs.Common.{arith}
use Rattle.packed_words.proofs.Nexts.{next_in_words, within_words}
use Rattle.packed_eval.proofs.sums.next_held.Goals as goal

pub returns-clause-value : goal.returns-clause-value
returns-clause-value c = next_in_words c.args.set.now c.args.from c.next_member.result c.next_member.ensures

pub returns-clause-below : goal.returns-clause-below
returns-clause-below c = within_words c.args.set.now c.args.from c.next_member.result c.next_member.ensures (omega (arith, c.requires))
