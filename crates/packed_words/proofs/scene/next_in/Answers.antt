use Rattle.std.proofs.Common.{rules, arith}
use Rattle.packed_words.proofs.Nexts.{next_past, next_here, next_after}
use Rattle.packed_words.proofs.scene.next_in.Goals as goal

pub returns : goal.returns
returns c = next_after c.args.at.now.words.now c.set_slot-slot.result c.args.v c.set_slot-slot.ensures.held c.set_slot-slot.ensures.kind c.args.at.now.shown.small c.args.from c.word_in-word.result _ (omega arith) c.word_in-word.ensures.word (search rules) c.first_after.ensures

pub returns-then-number-words_for : goal.returns-then-number-words_for
returns-then-number-words_for c = next_past c.args.at.now.words.now c.set_slot-slot.result c.args.v c.set_slot-slot.ensures.held c.set_slot-slot.ensures.kind c.args.at.now.shown.small c.args.from (omega arith)

pub returns-then-rest-ne0 : goal.returns-then-rest-ne0
returns-then-rest-ne0 c = next_here c.args.at.now.words.now c.set_slot-slot.result c.args.v c.set_slot-slot.ensures.held c.set_slot-slot.ensures.kind c.args.at.now.shown.small c.args.from c.word_in-word.result (omega arith) c.word_in-word.ensures.word (omega arith)
