use Rattle.std.proofs.Common.{rules, arith, ◌≡◌, ◌∙◌, ◌+◌, ◌-◌, length, to_z, of_z, FitsSigned, w64, ◌+ℤ◌}
use Rattle.std.specs.Int.{w128}
use Rattle.std.specs.Prelude.{None, slice_get}
use Rattle.std.proofs.lemmas.Int.{ints, to_z-of_z}
use Rattle.bit_sets.specs.Sets.{members_of}
use Rattle.packed_words.specs.Sets.{one_word}
use Rattle.packed_words.proofs.OneWord.{one_length}
use Rattle.packed_eval.specs.Sums.{cell_at, IsWithin}
use Rattle.packed_eval.proofs.Firsts.{shorter, total_next, total_done}
use Rattle.packed_eval.proofs.Ways.{within_step, sum_fits, cell_within, few_members_of}
use Rattle.packed_eval.proofs.sums.total_in.Goals as goal

pub loop-member-init : goal.loop-member-init
loop-member-init c =
    let most = few_members_of (one_word c.args.word) in
    record {
      left = omega (arith, ints);
      few = omega (arith, most, one_length c.args.word);
      within = omega arith;
      bounds = record { low = omega (arith, ints); high = omega (arith, ints) };
    }

pub overflow_add-total : goal.overflow_add-total
overflow_add-total c =
    let small : FitsSigned w64 c.number_at.result = search rules in
    let fits : FitsSigned w128 c.from-total.result = search rules in
    let same : c.from-total.result ≡ c.number_at.result = omega (arith, ints) in
    let cell : IsWithin 9223372036854775808 c.from-total.result = rw same (cell_within c.number_at.result small) in
    let few = c.loop-member.invariant.few in
    let taken = length (members_of (one_word c.args.word)) - length (members_of (one_word c.loop-member.left)) in
    let sum : FitsSigned w128 (to_z w128 c.loop-member.total-bits +ℤ c.from-total.result) = sum_fits 9223372036854775808 taken (to_z w128 c.loop-member.total-bits) c.from-total.result (omega (arith, few)) (omega arith) c.loop-member.invariant.bounds cell in
    rw (to_z-of_z w128 c.from-total.result fits) sum

pub loop-member-preserved : goal.loop-member-preserved
loop-member-preserved c =
    let small : FitsSigned w64 c.number_at.result = search rules in
    let fits : FitsSigned w128 c.from-total.result = search rules in
    let same : c.from-total.result ≡ c.number_at.result = omega (arith, ints) in
    let cell : IsWithin 9223372036854775808 c.from-total.result = rw same (cell_within c.number_at.result small) in
    let few = c.loop-member.invariant.few in
    let within = c.loop-member.invariant.within in
    let taken = length (members_of (one_word c.args.word)) - length (members_of (one_word c.loop-member.left)) in
    let sum : FitsSigned w128 (to_z w128 c.loop-member.total-bits +ℤ c.from-total.result) = sum_fits 9223372036854775808 taken (to_z w128 c.loop-member.total-bits) c.from-total.result (omega (arith, few)) (omega arith) c.loop-member.invariant.bounds cell in
    let after : to_z w128 (of_z w128 (to_z w128 c.loop-member.total-bits +ℤ to_z w128 (of_z w128 c.from-total.result))) ≡ to_z w128 c.loop-member.total-bits +ℤ c.from-total.result = rw (to_z-of_z w128 c.from-total.result fits) (to_z-of_z w128 (to_z w128 c.loop-member.total-bits +ℤ c.from-total.result) sum) in
    let split = c.without_lowest-left.ensures in
    let one = shorter (members_of (one_word c.loop-member.left)) (members_of (one_word c.without_lowest-left.result)) c.in-Some.member split in
    let next : taken + 1 ≡ length (members_of (one_word c.args.word)) - length (members_of (one_word c.without_lowest-left.result)) = omega (arith, one, within) in
    record {
      left = total_next (cell_at c.args.cells.now) (members_of (one_word c.loop-member.left)) (members_of (one_word c.without_lowest-left.result)) c.in-Some.member (to_z w128 c.loop-member.total-bits) c.from-total.result _ _ split (same ∙ c.number_at.ensures c.in-Some.member (omega (arith, c.in-Some.ensures.below))) after c.loop-member.invariant.left;
      few = few;
      within = omega (arith, one, within);
      bounds = rw (← next) (within_step 9223372036854775808 taken taken (to_z w128 c.loop-member.total-bits) c.from-total.result _ (omega arith) c.loop-member.invariant.bounds cell after);
    }

pub returns-clause-value : goal.returns-clause-value
returns-clause-value c =
    let end : None ≡ slice_get (members_of (one_word c.loop-member.left)) 0 = search rules in
    total_done (cell_at c.args.cells.now) (members_of (one_word c.loop-member.left)) (to_z w128 c.loop-member.total-bits) _ end c.loop-member.invariant.left
