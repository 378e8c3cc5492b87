use Rattle.std.proofs.Common.{rules, ◌≡◌, ◌∙◌, Some, None}
use Rattle.packed_words.specs.Tables.{shape_in}
use Rattle.packed_words.proofs.Packs.{cells_none, words_in, words_missing}
use Rattle.packed_words.proofs.cells.set_at.Goals as goal

pub returns-in-Some : goal.returns-in-Some
returns-in-Some c = let there : Some c.in-Some.shape.now ≡ shape_in c.args.at.now.model.now c.args.t = search rules in λ p e. c.set_in_shape.ensures p e ∙ words_in c.args.at.now.model.now c.args.t p c.in-Some.shape.now there

pub returns-in-None : goal.returns-in-None
returns-in-None c = let there : None ≡ shape_in c.args.at.now.model.now c.args.t = search rules in λ p e. words_missing c.args.at.now.model.now c.args.t p (cells_none c.args.at.now.model.now c.args.t there)
