use Rattle.packed_words.proofs.Marks.{without_members, clean_of}
use Rattle.packed_words.proofs.sets.without.Goals as goal

pub returns-clause-members : goal.returns-clause-members
returns-clause-members c = without_members c.args.count c.args.a.now _ c.args.member c.requires.clean c.remove.ensures.members

pub returns-clause-clean : goal.returns-clause-clean
returns-clause-clean c = clean_of c.args.count _ _ (without_members c.args.count c.args.a.now _ c.args.member c.requires.clean c.remove.ensures.members)
