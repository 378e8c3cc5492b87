use Rattle.std.proofs.Common.{rules, ◌<◌, ◌≤◌, ◌/◌, length}
use Rattle.packed_words.proofs.Packs.{member_put, member_past}
use Rattle.packed_words.proofs.tables.put_member.Goals as goal

pub returns-then-place-words : goal.returns-then-place-words
returns-then-place-words c = λ count set e.
    let inside : c.args.member / 64 < length c.args.words.now = search rules in
    member_put count set c.args.words.now c.args.member e inside

pub returns-else-place-words : goal.returns-else-place-words
returns-else-place-words c = λ count set e.
    let past : length c.args.words.now ≤ c.args.member / 64 = search rules in
    member_past count set c.args.words.now c.args.member e past
