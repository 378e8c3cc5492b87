use Rattle.std.proofs.Common.{◌≡◌, ℕ, ◌+◌, ◌-◌, ◌*◌, ◌≤◌, min, ◌+ℤ◌}
use Rattle.bit_sets.specs.Sets.{members_of}
use Rattle.packed_words.specs.Places.{most}
use Rattle.packed_words.specs.Sets.{members_from}
use Rattle.packed_words.specs.Totals.{total_by}
use Rattle.packed_eval.specs.Sums.{cell_at, bound_for, IsWithin}
use Rattle.packed_eval.proofs.sums.total_of_two.Given as goal

abbrev pub invariant-loop-member : goal.invariant-loop-member
invariant-loop-member l = record {
  left : (place : ℕ) → l.at ≡ min most place
      → l.total +ℤ total_by (λ k. total_by (λ j. cell_at l.cells ((place * l.count + k) * l.last + j)) (members_of l.behind)) (members_from l.from (members_of l.set))
      ≡ total_by (λ k. total_by (λ j. cell_at l.cells ((place * l.count + k) * l.last + j)) (members_of l.behind)) (members_of l.set);
  few : l.from ≤ 8192;
  bounds : IsWithin (l.from * bound_for 1) l.total;
}

abbrev pub decreases-loop-member : goal.decreases-loop-member
decreases-loop-member l = 8192 - l.from
