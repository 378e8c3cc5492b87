use Rattle.std.proofs.Common.{arith}
use Rattle.state_layout.proofs.Decoding.{number_read, number_there}
use Rattle.state_layout.proofs.reading.number_in.Goals as goal

pub returns-clause-value : goal.returns-clause-value
returns-clause-value c = number_read c.args.words.now c.args.place c.first_word.result c.cast_signed.result c.first_word.type_inv c.first_word.ensures c.cast_signed.ensures c.requires.kind

pub returns-clause-number : goal.returns-clause-number
returns-clause-number c = number_there c.args.words.now c.args.place _ (omega (arith, c.requires.place, c.requires.count)) (number_read c.args.words.now c.args.place c.first_word.result c.cast_signed.result c.first_word.type_inv c.first_word.ensures c.cast_signed.ensures c.requires.kind)
