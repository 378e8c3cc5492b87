use Rattle.std.proofs.Common.{rules, arith, ◌≡◌, ◌∙◌, ◌+◌, ◌-◌, ◌*◌, length, min, to_z, of_z, FitsSigned, ◌+ℤ◌}
use Rattle.std.specs.Int.{w128}
use Rattle.std.specs.Prelude.{None, slice_get}
use Rattle.std.proofs.lemmas.Int.{ints, to_z-of_z}
use Rattle.bit_sets.specs.Sets.{members_of}
use Rattle.packed_words.specs.Places.{most}
use Rattle.packed_words.specs.Sets.{one_word}
use Rattle.packed_words.specs.Totals.{total_by}
use Rattle.packed_words.proofs.OneWord.{one_length}
use Rattle.packed_eval.specs.Sums.{cell_at, bound_for}
use Rattle.packed_eval.proofs.Firsts.{shorter, total_next, total_done}
use Rattle.packed_eval.proofs.Ways.{bound_small, total_same, within_step, sum_fits, few_members_of}
use Rattle.packed_eval.proofs.sums.total_in_rows.Goals as goal

pub loop-member-init : goal.loop-member-init
loop-member-init c =
    let most = few_members_of (one_word c.args.set) in
    record {
      left = omega (arith, ints);
      few = omega (arith, most, one_length c.args.set);
      within = omega arith;
      bounds = record { low = omega (arith, ints); high = omega (arith, ints) };
    }

pub overflow_add-total : goal.overflow_add-total
overflow_add-total c =
    let fits : FitsSigned w128 c.total_in-total.result = search rules in
    let few = c.loop-member.invariant.few in
    let taken = length (members_of (one_word c.args.set)) - length (members_of (one_word c.loop-member.left)) in
    let sum : FitsSigned w128 (to_z w128 c.loop-member.total-bits +ℤ c.total_in-total.result) = sum_fits (bound_for 1) taken (to_z w128 c.loop-member.total-bits) c.total_in-total.result (omega (arith, few)) (bound_small 1 (omega arith)) c.loop-member.invariant.bounds c.total_in-total.ensures.within in
    rw (to_z-of_z w128 c.total_in-total.result fits) sum

pub loop-member-preserved : goal.loop-member-preserved
loop-member-preserved c =
    let fits : FitsSigned w128 c.total_in-total.result = search rules in
    let few = c.loop-member.invariant.few in
    let within = c.loop-member.invariant.within in
    let taken = length (members_of (one_word c.args.set)) - length (members_of (one_word c.loop-member.left)) in
    let sum : FitsSigned w128 (to_z w128 c.loop-member.total-bits +ℤ c.total_in-total.result) = sum_fits (bound_for 1) taken (to_z w128 c.loop-member.total-bits) c.total_in-total.result (omega (arith, few)) (bound_small 1 (omega arith)) c.loop-member.invariant.bounds c.total_in-total.ensures.within in
    let after : to_z w128 (of_z w128 (to_z w128 c.loop-member.total-bits +ℤ to_z w128 (of_z w128 c.total_in-total.result))) ≡ to_z w128 c.loop-member.total-bits +ℤ c.total_in-total.result = rw (to_z-of_z w128 c.total_in-total.result fits) (to_z-of_z w128 (to_z w128 c.loop-member.total-bits +ℤ c.total_in-total.result) sum) in
    let split = c.without_lowest-left.ensures in
    let one = shorter (members_of (one_word c.loop-member.left)) (members_of (one_word c.without_lowest-left.result)) c.in-Some.member split in
    let next : taken + 1 ≡ length (members_of (one_word c.args.set)) - length (members_of (one_word c.without_lowest-left.result)) = omega (arith, one, within) in
    let place : c.in-Some.member ≡ min most c.in-Some.member = omega (arith, c.in-Some.ensures.below) in
    let row = total_same (cell_at c.row_of.result.now) (λ j. cell_at c.args.cells.now (c.in-Some.member * c.args.last + j)) (c.row_of.ensures c.in-Some.member place) (members_of (one_word c.args.behind)) in
    record {
      left = total_next (λ k. total_by (λ j. cell_at c.args.cells.now (k * c.args.last + j)) (members_of (one_word c.args.behind))) (members_of (one_word c.loop-member.left)) (members_of (one_word c.without_lowest-left.result)) c.in-Some.member (to_z w128 c.loop-member.total-bits) c.total_in-total.result _ _ split (c.total_in-total.ensures.value ∙ row) after c.loop-member.invariant.left;
      few = few;
      within = omega (arith, one, within);
      bounds = rw (← next) (within_step (bound_for 1) taken taken (to_z w128 c.loop-member.total-bits) c.total_in-total.result _ (omega arith) c.loop-member.invariant.bounds c.total_in-total.ensures.within after);
    }

pub returns : goal.returns
returns c =
    let end : None ≡ slice_get (members_of (one_word c.loop-member.left)) 0 = search rules in
    total_done (λ k. total_by (λ j. cell_at c.args.cells.now (k * c.args.last + j)) (members_of (one_word c.args.behind))) (members_of (one_word c.loop-member.left)) (to_z w128 c.loop-member.total-bits) _ end c.loop-member.invariant.left
