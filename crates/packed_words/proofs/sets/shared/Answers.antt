use Rattle.packed_words.proofs.Marks.{shared_members, clean_of}
use Rattle.packed_words.proofs.sets.shared.Goals as goal

pub returns-clause-members : goal.returns-clause-members
returns-clause-members c = shared_members c.args.count c.args.a.now c.args.b.now _ c.requires.clean c.meet_into.ensures.members

pub returns-clause-clean : goal.returns-clause-clean
returns-clause-clean c = clean_of c.args.count _ _ (shared_members c.args.count c.args.a.now c.args.b.now _ c.requires.clean c.meet_into.ensures.members)
