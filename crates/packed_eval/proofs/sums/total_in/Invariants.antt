use Rattle.std.proofs.Common.{◌≡◌, ◌-◌, ◌*◌, ◌≤◌, ◌+ℤ◌, length}
use Rattle.bit_sets.specs.Sets.{members_of}
use Rattle.packed_words.specs.Sets.{one_word}
use Rattle.packed_words.specs.Totals.{total_by}
use Rattle.packed_eval.specs.Sums.{cell_at, IsWithin}
use Rattle.packed_eval.proofs.sums.total_in.Given as goal

-- the cells of the members that are taken off are added
abbrev pub invariant-loop-member : goal.invariant-loop-member
invariant-loop-member l = record {
  left : l.total +ℤ total_by (cell_at l.cells) (members_of (one_word l.left))
      ≡ total_by (cell_at l.cells) (members_of (one_word l.word));
  few : length (members_of (one_word l.word)) ≤ 64;
  within : length (members_of (one_word l.left)) ≤ length (members_of (one_word l.word));
  bounds : IsWithin ((length (members_of (one_word l.word)) - length (members_of (one_word l.left))) * 9223372036854775808) l.total;
}

abbrev pub decreases-loop-member : goal.decreases-loop-member
decreases-loop-member l = length (members_of (one_word l.left))
