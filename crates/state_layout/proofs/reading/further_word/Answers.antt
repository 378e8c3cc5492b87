use Rattle.std.proofs.Common.{◌∙◌, ℕ, get_or, ap, arith}
use Rattle.state_layout.proofs.Decoding.{further_read, further_past}
use Rattle.state_layout.proofs.reading.further_word.Goals as goal

pub returns-then-at-words : goal.returns-then-at-words
returns-then-at-words c = ap (λ (k : ℕ). get_or c.args.words.now k 0) c.further_place-at.ensures ∙ further_read c.args.words.now c.args.slot c.args.count c.args.place c.args.number c.requires.count c.requires.held c.requires.kind c.requires.number

pub returns-else-at-words : goal.returns-else-at-words
returns-else-at-words c = further_past c.args.words.now c.args.slot c.args.count c.args.place c.args.number c.further_place-at.result c.requires.count c.requires.held c.requires.kind c.requires.number c.further_place-at.ensures (omega arith)
