use Rattle.state_layout.proofs.Decoding.{first_read}
use Rattle.state_layout.proofs.reading.first_word.Goals as goal

pub returns : goal.returns
returns c = first_read c.args.words.now c.args.count c.args.place c.requires.count
