use Rattle.std.proofs.Common.{◌≡◌, ◌-◌, ◌≤◌}
use Rattle.state_layout.specs.Packing.{state_in}
use Rattle.packed_words.specs.Ranges.{range_members}
use Rattle.packed_words.specs.Sets.{members_from}
use Rattle.packed_eval.specs.Rows.{all_met}
use Rattle.packed_eval.proofs.rows.all_met_in_turn.Given as goal

abbrev pub invariant-loop-member : goal.invariant-loop-member
invariant-loop-member l = record {
  left : all_met l.sides (members_from l.from (range_members (state_in l.at.words.now) l.range)) ≡ all_met l.sides (range_members (state_in l.at.words.now) l.range);
  within : l.from ≤ 8192;
}

abbrev pub decreases-loop-member : goal.decreases-loop-member
decreases-loop-member l = 8192 - l.from
