use Rattle.std.proofs.Common.{sym, ◌∙◌}
use Rattle.packed_words.proofs.Marks.{united_members, clean_of}
use Rattle.packed_words.proofs.sets.united.Goals as goal

pub returns-clause-members : goal.returns-clause-members
returns-clause-members c = united_members c.args.count c.args.a.now c.args.b.now _ c.requires.clean (c.requires.left ∙ sym c.requires.right) c.requires.clean_right c.union_into.ensures.members

pub returns-clause-clean : goal.returns-clause-clean
returns-clause-clean c = clean_of c.args.count _ _ (united_members c.args.count c.args.a.now c.args.b.now _ c.requires.clean (c.requires.left ∙ sym c.requires.right) c.requires.clean_right c.union_into.ensures.members)
