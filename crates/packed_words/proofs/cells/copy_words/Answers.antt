use Rattle.std.proofs.Common.{arith}
use Rattle.std.proofs.lemmas.Grind.{same_number_lists}
use Rattle.packed_words.proofs.cells.copy_words.Goals as goal

pub returns-clause-same : goal.returns-clause-same
returns-clause-same c = λ e. same_number_lists c.loop-k.out c.args.words.now (omega (arith, e)) (λ j h. c.loop-k.invariant j (omega arith))
