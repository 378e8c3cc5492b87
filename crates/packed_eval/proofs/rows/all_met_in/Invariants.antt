use Rattle.std.proofs.Common.{◌≡◌, length}
use Rattle.bit_sets.specs.Sets.{members_of}
use Rattle.packed_words.specs.Sets.{one_word}
use Rattle.packed_eval.specs.Rows.{all_met}
use Rattle.packed_eval.proofs.rows.all_met_in.Given as goal

abbrev pub invariant-loop-member : goal.invariant-loop-member
invariant-loop-member l = all_met l.sides (members_of (one_word l.left)) ≡ all_met l.sides (members_of (one_word l.word))

abbrev pub decreases-loop-member : goal.decreases-loop-member
decreases-loop-member l = length (members_of (one_word l.left))
