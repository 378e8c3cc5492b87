use Rattle.std.proofs.Common.{rules, arith, ◌≡◌, ◌+◌, ◌*◌, ◌∙◌, to_z, of_z, FitsSigned, ◌+ℤ◌}
use Rattle.std.specs.Int.{w128}
use Rattle.std.proofs.lemmas.Int.{ints, to_z-of_z}
use Rattle.bit_sets.specs.Sets.{members_of}
use Rattle.packed_words.specs.Sets.{members_from}
use Rattle.packed_words.specs.Totals.{total_by}
use Rattle.packed_eval.specs.Sums.{cell_at, bound_for}
use Rattle.packed_eval.proofs.Foralls.{from_start}
use Rattle.packed_eval.proofs.Ways.{bound_small, place_next, total_step, within_step, sum_fits}
use Rattle.packed_eval.proofs.sums.total_of_two.Goals as goal

pub loop-member-init : goal.loop-member-init
loop-member-init c = record {
  left = λ place h. rw (from_start (members_of c.args.set.now)) (omega (arith, ints));
  few = omega arith;
  bounds = record { low = omega (arith, ints); high = omega (arith, ints) };
}

pub overflow_add-total : goal.overflow_add-total
overflow_add-total c =
    let fits : FitsSigned w128 c.total_last-total.result = search rules in
    let sum : FitsSigned w128 (to_z w128 c.loop-member.total-bits +ℤ c.total_last-total.result) = sum_fits (bound_for 1) c.loop-member.from (to_z w128 c.loop-member.total-bits) c.total_last-total.result c.loop-member.invariant.few (bound_small 1 (omega arith)) c.loop-member.invariant.bounds c.total_last-total.ensures.within in
    rw (to_z-of_z w128 c.total_last-total.result fits) sum

pub loop-member-preserved : goal.loop-member-preserved
loop-member-preserved c =
    let fits : FitsSigned w128 c.total_last-total.result = search rules in
    let sum : FitsSigned w128 (to_z w128 c.loop-member.total-bits +ℤ c.total_last-total.result) = sum_fits (bound_for 1) c.loop-member.from (to_z w128 c.loop-member.total-bits) c.total_last-total.result c.loop-member.invariant.few (bound_small 1 (omega arith)) c.loop-member.invariant.bounds c.total_last-total.ensures.within in
    let after : to_z w128 (of_z w128 (to_z w128 c.loop-member.total-bits +ℤ to_z w128 (of_z w128 c.total_last-total.result))) ≡ to_z w128 c.loop-member.total-bits +ℤ c.total_last-total.result = rw (to_z-of_z w128 c.total_last-total.result fits) (to_z-of_z w128 (to_z w128 c.loop-member.total-bits +ℤ c.total_last-total.result) sum) in
    let below = c.in-Some.ensures.below in
    record {
      left = λ place h. total_step (λ k. total_by (λ j. cell_at c.args.cells.now ((place * c.args.count + k) * c.args.last + j)) (members_of c.args.behind.now)) (λ from. members_from from (members_of c.args.set.now)) c.loop-member.from c.in-Some.member (to_z w128 c.loop-member.total-bits) c.total_last-total.result _ _ c.in-Some.ensures.value (c.total_last-total.ensures.value (place * c.args.count + c.in-Some.member) (c.next_place.ensures ∙ place_next c.args.at place c.args.count c.in-Some.member h)) after (c.loop-member.invariant.left place h);
      few = omega (arith, below.1);
      bounds = within_step (bound_for 1) c.loop-member.from c.in-Some.member (to_z w128 c.loop-member.total-bits) c.total_last-total.result _ below.0 c.loop-member.invariant.bounds c.total_last-total.ensures.within after;
    }
