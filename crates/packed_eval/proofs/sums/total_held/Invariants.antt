use Rattle.std.proofs.Common.{◌≡◌, ◌-◌, ◌*◌, ◌≤◌, ◌+ℤ◌}
use Rattle.bit_sets.specs.Sets.{members_of}
use Rattle.packed_words.specs.Sets.{members_from}
use Rattle.packed_words.specs.Totals.{total_by}
use Rattle.packed_eval.specs.Sums.{cell_at, IsWithin}
use Rattle.packed_eval.proofs.sums.total_held.Given as goal

-- the cells of the members below a number are added
abbrev pub invariant-loop-member : goal.invariant-loop-member
invariant-loop-member l = record {
  left : l.total +ℤ total_by (cell_at l.row) (members_from l.from (members_of l.set))
      ≡ total_by (cell_at l.row) (members_of l.set);
  few : l.from ≤ 8192;
  bounds : IsWithin (l.from * 9223372036854775808) l.total;
}

abbrev pub decreases-loop-member : goal.decreases-loop-member
decreases-loop-member l = 8192 - l.from
