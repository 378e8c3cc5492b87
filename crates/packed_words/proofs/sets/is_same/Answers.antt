use Rattle.packed_words.proofs.Marks.{decided}
use Rattle.packed_words.proofs.sets.is_same.Goals as goal

pub returns : goal.returns
returns c = decided _ _ c.same.result c.same.ensures
