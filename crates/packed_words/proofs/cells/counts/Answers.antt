use Rattle.std.proofs.Common.{rules, ◌≡◌, Some, None, ◌∙◌}
use Rattle.packed_words.specs.Tables.{shape_in}
use Rattle.packed_words.proofs.Packs.{counts_some, counts_none}
use Rattle.packed_words.proofs.cells.counts.Goals as goal

pub returns-in-Some : goal.returns-in-Some
returns-in-Some c = let there : Some c.in-Some.shape.now ≡ shape_in c.args.at.now.model.now c.args.t = search rules in let items : c.deref.result.now ≡ c.in-Some.shape.now.counts = search rules in items ∙ counts_some c.args.at.now.model.now c.args.t c.in-Some.shape.now there

pub returns-in-None : goal.returns-in-None
returns-in-None c = let there : None ≡ shape_in c.args.at.now.model.now c.args.t = search rules in counts_none c.args.at.now.model.now c.args.t there
