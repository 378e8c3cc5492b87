use Rattle.std.proofs.Common.{◌≡◌, ◌∙◌, ℕ, sym, ap, arith}
use Rattle.state_layout.specs.Packing.{word_in}
use Rattle.state_layout.proofs.Decoding.{bits_there}
use Rattle.state_layout.proofs.reading.word_in.Goals as goal

pub returns-then-number-eq0-clause-bits : goal.returns-then-number-eq0-clause-bits
returns-then-number-eq0-clause-bits c =
    let e : c.args.number ≡ 0 = omega arith in
    bits_there c.args.words.now c.args.slot c.args.place c.args.number c.first_word.result c.requires.held c.requires.kind (c.first_word.ensures ∙ ap (λ (n : ℕ). word_in c.args.words.now c.args.place n) (sym e))

pub returns-else-number-eq0-clause-bits : goal.returns-else-number-eq0-clause-bits
returns-else-number-eq0-clause-bits c = bits_there c.args.words.now c.args.slot c.args.place c.args.number c.further_word.result c.requires.held c.requires.kind c.further_word.ensures
