use Rattle.std.proofs.Common.{◌∙◌, ℕ, set, ap}
use Rattle.state_layout.proofs.Ranking.{further_there}
use Rattle.state_layout.proofs.writing.put_further.Goals as goal

pub returns : goal.returns
returns c = ap (λ (k : ℕ). set c.args.words.now k c.args.word) (c.further_place.ensures ∙ further_there c.args.words.now c.args.slot c.args.count c.args.place c.args.number c.requires.count c.requires.rank c.requires.sets c.requires.number)
