use Rattle.packed_words.proofs.Packs.{shape_there}
use Rattle.packed_words.proofs.cells.shape.Goals as goal

pub returns : goal.returns
returns c = shape_there c.args.at.now.model.now c.args.at.now.tables.now c.args.at.now.flat c.args.t _ c.shape_at.ensures
