use Rattle.std.proofs.Common.{ℕ, set, ap}
use Rattle.state_layout.proofs.Ranking.{first_there}
use Rattle.state_layout.proofs.writing.put_first.Goals as goal

pub returns : goal.returns
returns c = ap (λ (k : ℕ). set c.args.words.now k c.args.word) (first_there c.args.words.now c.args.count c.args.place c.requires.count)
