use Rattle.std.proofs.Common.{arith}
use Rattle.packed_words.proofs.Nexts.{first_found, first_nowhere}
use Rattle.packed_words.proofs.scene.first_after.Goals as goal

pub returns-then-word-ne0 : goal.returns-then-word-ne0
returns-then-word-ne0 c = first_found c.args.at.now.words.now c.args.slot c.args.v c.requires.held c.requires.kind c.args.at.now.shown.small c.args.number c.loop-k.k c.word_in-word.result (omega arith) (omega arith) c.word_in-word.ensures.word (omega arith) c.loop-k.invariant

pub returns : goal.returns
returns c = first_nowhere c.args.at.now.words.now c.args.slot c.args.v c.requires.held c.requires.kind c.args.at.now.shown.small c.args.number (λ j l u. c.loop-k.invariant j l (omega arith))
