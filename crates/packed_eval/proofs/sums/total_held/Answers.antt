use Rattle.std.proofs.Common.{rules, arith, ◌≡◌, ◌∙◌, to_z, of_z, FitsSigned, w64, ◌+ℤ◌}
use Rattle.std.specs.Int.{w128}
use Rattle.std.proofs.lemmas.Int.{ints, to_z-of_z}
use Rattle.bit_sets.specs.Sets.{members_of}
use Rattle.packed_words.specs.Sets.{members_from}
use Rattle.packed_eval.specs.Sums.{cell_at, IsWithin}
use Rattle.packed_eval.proofs.Foralls.{from_start}
use Rattle.packed_eval.proofs.Ways.{total_step, within_step, sum_fits, cell_within}
use Rattle.packed_eval.proofs.sums.total_held.Goals as goal

pub loop-member-init : goal.loop-member-init
loop-member-init c = record {
  left = rw (from_start (members_of c.args.set.now)) (omega (arith, ints));
  few = omega arith;
  bounds = record { low = omega (arith, ints); high = omega (arith, ints) };
}

pub overflow_add-total : goal.overflow_add-total
overflow_add-total c =
    let small : FitsSigned w64 c.number_at.result = search rules in
    let fits : FitsSigned w128 c.from-total.result = search rules in
    let same : c.from-total.result ≡ c.number_at.result = omega (arith, ints) in
    let cell : IsWithin 9223372036854775808 c.from-total.result = rw same (cell_within c.number_at.result small) in
    let sum : FitsSigned w128 (to_z w128 c.loop-member.total-bits +ℤ c.from-total.result) = sum_fits 9223372036854775808 c.loop-member.from (to_z w128 c.loop-member.total-bits) c.from-total.result c.loop-member.invariant.few (omega arith) c.loop-member.invariant.bounds cell in
    rw (to_z-of_z w128 c.from-total.result fits) sum

pub loop-member-preserved : goal.loop-member-preserved
loop-member-preserved c =
    let small : FitsSigned w64 c.number_at.result = search rules in
    let fits : FitsSigned w128 c.from-total.result = search rules in
    let same : c.from-total.result ≡ c.number_at.result = omega (arith, ints) in
    let cell : IsWithin 9223372036854775808 c.from-total.result = rw same (cell_within c.number_at.result small) in
    let sum : FitsSigned w128 (to_z w128 c.loop-member.total-bits +ℤ c.from-total.result) = sum_fits 9223372036854775808 c.loop-member.from (to_z w128 c.loop-member.total-bits) c.from-total.result c.loop-member.invariant.few (omega arith) c.loop-member.invariant.bounds cell in
    let after : to_z w128 (of_z w128 (to_z w128 c.loop-member.total-bits +ℤ to_z w128 (of_z w128 c.from-total.result))) ≡ to_z w128 c.loop-member.total-bits +ℤ c.from-total.result = rw (to_z-of_z w128 c.from-total.result fits) (to_z-of_z w128 (to_z w128 c.loop-member.total-bits +ℤ c.from-total.result) sum) in
    let below = c.in-Some.ensures.below in
    record {
      left = total_step (cell_at c.args.row.now) (λ from. members_from from (members_of c.args.set.now)) c.loop-member.from c.in-Some.member (to_z w128 c.loop-member.total-bits) c.from-total.result _ _ c.in-Some.ensures.value (same ∙ c.number_at.ensures c.in-Some.member (omega (arith, below.1))) after c.loop-member.invariant.left;
      few = omega (arith, below.1);
      bounds = within_step 9223372036854775808 c.loop-member.from c.in-Some.member (to_z w128 c.loop-member.total-bits) c.from-total.result _ below.0 c.loop-member.invariant.bounds cell after;
    }
