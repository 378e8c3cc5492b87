use Rattle.std.proofs.Common.{arith}
use Rattle.packed_words.proofs.Marks.{with_members, clean_of}
use Rattle.packed_words.proofs.sets.with.Goals as goal

pub returns-clause-members : goal.returns-clause-members
returns-clause-members c = with_members c.args.count c.args.a.now _ c.args.member c.requires.clean (omega (arith, c.requires.len)) c.requires.member c.insert.ensures.members

pub returns-clause-clean : goal.returns-clause-clean
returns-clause-clean c = clean_of c.args.count _ _ (with_members c.args.count c.args.a.now _ c.args.member c.requires.clean (omega (arith, c.requires.len)) c.requires.member c.insert.ensures.members)
