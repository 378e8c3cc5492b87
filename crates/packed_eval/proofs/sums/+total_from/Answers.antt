use Rattle.std.proofs.Common.{rules, arith, ◌≡◌, ◌≤◌, ◌+◌, ◌*◌, ◌∙◌, sym, length, eqb-true, length-drop, to_z, of_z, FitsSigned, w64, ◌+ℤ◌}
use Rattle.std.specs.Int.{w128}
use Rattle.std.proofs.lemmas.Int.{ints, to_z-of_z}
use Rattle.bit_sets.specs.Sets.{members_of}
use Rattle.packed_words.specs.Sets.{members_from}
use Rattle.packed_eval.specs.Sums.{sets_in, total_over, cell_at, bound_for}
use Rattle.packed_eval.proofs.Foralls.{from_start}
use Rattle.packed_eval.proofs.Ways.{over_none, bound_none, bound_small, place_next, total_step, within_step, sum_fits}
use Rattle.packed_eval.proofs.sums.+total_from.Goals as goal

pub returns-then-is_empty-clause-value : goal.returns-then-is_empty-clause-value
returns-then-is_empty-clause-value t c = λ place h.
    let none : length c.args.counts.now ≡ 0 = eqb-true (length c.args.counts.now) 0 (sym c.is_empty.ensures ∙ c.if-is_empty.true) in
    let fits : FitsSigned w128 c.from.result = search rules in
    let same : c.from.result ≡ c.number_at.result = omega (arith, ints) in
    to_z-of_z w128 c.from.result fits ∙ same ∙ c.number_at.ensures place h ∙ over_none (cell_at c.args.cells.now) place c.args.counts.now c.args.held.now none

pub returns-then-is_empty-clause-within : goal.returns-then-is_empty-clause-within
returns-then-is_empty-clause-within t c =
    let none : length c.args.counts.now ≡ 0 = eqb-true (length c.args.counts.now) 0 (sym c.is_empty.ensures ∙ c.if-is_empty.true) in
    let fits : FitsSigned w128 c.from.result = search rules in
    let small : FitsSigned w64 c.number_at.result = search rules in
    let same : c.from.result ≡ c.number_at.result = omega (arith, ints) in
    rw (bound_none c.args.counts.now none, to_z-of_z w128 c.from.result fits) (record { low = omega (arith, ints); high = omega (arith, ints) })

pub loop-member-init : goal.loop-member-init
loop-member-init t c = record {
  left = λ place h. rw (from_start (members_of c.split_at.result.0.now)) (omega (arith, ints));
  few = omega arith;
  bounds = record { low = omega (arith, ints); high = omega (arith, ints) };
}

pub overflow_add-total : goal.overflow_add-total
overflow_add-total t c =
    let fits : FitsSigned w128 c.total_from-total.result = search rules in
    let rest = c.after_first-rest.result.now in
    let short : length rest ≤ 3 = rw c.after_first-rest.ensures (omega (arith, length-drop 1 c.args.counts.now, c.requires.few.four)) in
    let sum : FitsSigned w128 (to_z w128 c.loop-member.total-bits +ℤ c.total_from-total.result) = sum_fits (bound_for (length rest)) c.loop-member.from (to_z w128 c.loop-member.total-bits) c.total_from-total.result c.loop-member.invariant.few (bound_small (length rest) short) c.loop-member.invariant.bounds c.total_from-total.ensures.within in
    rw (to_z-of_z w128 c.total_from-total.result fits) sum

pub loop-member-preserved : goal.loop-member-preserved
loop-member-preserved t c =
    let fits : FitsSigned w128 c.total_from-total.result = search rules in
    let rest = c.after_first-rest.result.now in
    let short : length rest ≤ 3 = rw c.after_first-rest.ensures (omega (arith, length-drop 1 c.args.counts.now, c.requires.few.four)) in
    let sum : FitsSigned w128 (to_z w128 c.loop-member.total-bits +ℤ c.total_from-total.result) = sum_fits (bound_for (length rest)) c.loop-member.from (to_z w128 c.loop-member.total-bits) c.total_from-total.result c.loop-member.invariant.few (bound_small (length rest) short) c.loop-member.invariant.bounds c.total_from-total.ensures.within in
    let after : to_z w128 (of_z w128 (to_z w128 c.loop-member.total-bits +ℤ to_z w128 (of_z w128 c.total_from-total.result))) ≡ to_z w128 c.loop-member.total-bits +ℤ c.total_from-total.result = rw (to_z-of_z w128 c.total_from-total.result fits) (to_z-of_z w128 (to_z w128 c.loop-member.total-bits +ℤ c.total_from-total.result) sum) in
    let below = c.in-Some.ensures.below in
    record {
      left = λ place h. total_step (λ k. total_over (cell_at c.args.cells.now) (place * c.first_of-count.result + k) rest (sets_in rest c.split_at.result.1.now)) (λ from. members_from from (members_of c.split_at.result.0.now)) c.loop-member.from c.in-Some.member (to_z w128 c.loop-member.total-bits) c.total_from-total.result _ _ c.in-Some.ensures.value (c.total_from-total.ensures.value (place * c.first_of-count.result + c.in-Some.member) (c.next_place.ensures ∙ place_next c.args.at place c.first_of-count.result c.in-Some.member h)) after (c.loop-member.invariant.left place h);
      few = omega (arith, below.1);
      bounds = within_step (bound_for (length rest)) c.loop-member.from c.in-Some.member (to_z w128 c.loop-member.total-bits) c.total_from-total.result _ below.0 c.loop-member.invariant.bounds c.total_from-total.ensures.within after;
    }
