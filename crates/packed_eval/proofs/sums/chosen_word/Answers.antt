use Rattle.std.proofs.Common.{◌≡◌, ◌∷◌, [], ◌∙◌, Ok, arith, rules}
use Rattle.dp_model.specs.Evaluation.{member_of}
use Rattle.bit_sets.specs.Sets.{members_of}
use Rattle.packed_words.specs.Sets.{one_word}
use Rattle.packed_words.proofs.Packs.{zero_members, zero_clean, zero_word}
use Rattle.packed_eval.specs.declared.sums.Term.TheVariants.{One}
use Rattle.packed_eval.proofs.Ways.{one_where, one_chosen}
use Rattle.packed_eval.proofs.sums.chosen_word.Goals as goal

pub word_with-requires-clause-clean : goal.word_with-requires-clause-clean
word_with-requires-clause-clean c = zero_clean c.args.count (one_word 0) zero_word

pub returns-in_ok-member-in-One : goal.returns-in_ok-member-in-One
returns-in_ok-member-in-One c =
    let there : member_of c.args.count c.in-One.z ≡ Ok c.in_ok-member-in-One.member = search rules in
    let alone : members_of (one_word c.word_with.result) ≡ c.in_ok-member-in-One.member ∷ [] = c.word_with.ensures.members ∙ rw (zero_members (one_word 0) zero_word) (one_where c.in_ok-member-in-One.member 0 c.args.count (omega arith) (omega (arith, c.in_ok-member-in-One.ensures.below))) in
    let is : c.args.term ≡ One c.in-One.z = search rules in
    rw is (one_chosen c.args.count c.in-One.z c.in_ok-member-in-One.member (members_of (one_word c.word_with.result)) there alone)
