use Rattle.std.proofs.Common.{◌≡◌, ◌∷◌, [], ◌∙◌, Ok, arith, rules}
use Rattle.dp_model.specs.Evaluation.{member_of}
use Rattle.bit_sets.specs.Sets.{members_of}
use Rattle.packed_words.specs.Sets.{one_word}
use Rattle.packed_words.proofs.Packs.{zero_members, zero_clean, zero_word}
use Rattle.packed_eval.proofs.Ways.{one_where, at_member}
use Rattle.packed_eval.proofs.sums.sum_at.Goals as goal

pub word_with-requires-clause-clean : goal.word_with-requires-clause-clean
word_with-requires-clause-clean c = zero_clean c.args.count (one_word 0) zero_word

pub returns : goal.returns
returns c =
    let there : member_of c.args.count c.args.z ≡ Ok c.in_ok-member.member = search rules in
    let alone : members_of (one_word c.word_with.result) ≡ c.in_ok-member.member ∷ [] = c.word_with.ensures.members ∙ rw (zero_members (one_word 0) zero_word) (one_where c.in_ok-member.member 0 c.args.count (omega arith) (omega (arith, c.in_ok-member.ensures.below))) in
    at_member c.args.model.now c.args.t c.args.count c.args.z c.in_ok-member.member (members_of (one_word c.word_with.result)) c.sum_word.result there alone c.sum_word.ensures
