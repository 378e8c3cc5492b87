use Rattle.packed_words.proofs.Marks.{clean_of}
use Rattle.packed_words.proofs.sets.others.Goals as goal

pub returns-clause-clean : goal.returns-clause-clean
returns-clause-clean c = clean_of c.args.count _ _ c.complement.ensures.members
