use Rattle.std.proofs.Common.{◌≡◌, ◌+◌, ◌-◌, ◌*◌, ◌≤◌, ◌+ℤ◌, length}
use Rattle.bit_sets.specs.Sets.{members_of}
use Rattle.packed_words.specs.Sets.{one_word}
use Rattle.packed_words.specs.Totals.{total_by}
use Rattle.packed_eval.specs.Sums.{cell_at, bound_for, IsWithin}
use Rattle.packed_eval.proofs.sums.total_in_rows.Given as goal

-- the rows of the members that are taken off are added
abbrev pub invariant-loop-member : goal.invariant-loop-member
invariant-loop-member l = record {
  left : l.total +ℤ total_by (λ k. total_by (λ j. cell_at l.cells (k * l.last + j)) (members_of (one_word l.behind))) (members_of (one_word l.left))
      ≡ total_by (λ k. total_by (λ j. cell_at l.cells (k * l.last + j)) (members_of (one_word l.behind))) (members_of (one_word l.set));
  few : length (members_of (one_word l.set)) ≤ 64;
  within : length (members_of (one_word l.left)) ≤ length (members_of (one_word l.set));
  bounds : IsWithin ((length (members_of (one_word l.set)) - length (members_of (one_word l.left))) * bound_for 1) l.total;
}

abbrev pub decreases-loop-member : goal.decreases-loop-member
decreases-loop-member l = length (members_of (one_word l.left))
