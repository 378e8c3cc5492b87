use Rattle.packed_words.proofs.Marks.{lessened_members, clean_of}
use Rattle.packed_words.proofs.sets.lessened.Goals as goal

pub returns-clause-members : goal.returns-clause-members
returns-clause-members c = lessened_members c.args.count c.args.a.now c.args.b.now _ c.requires.clean c.minus_into.ensures.members

pub returns-clause-clean : goal.returns-clause-clean
returns-clause-clean c = clean_of c.args.count _ _ (lessened_members c.args.count c.args.a.now c.args.b.now _ c.requires.clean c.minus_into.ensures.members)
