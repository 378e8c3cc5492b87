use Rattle.std.proofs.Common.{◌≡◌, ◌++◌, drop}
use Rattle.dypdl_data.specs.Marks.{marked_from}
use Rattle.dypdl_data.proofs.members.marked.Given as goal

abbrev pub invariant-loop-member : goal.invariant-loop-member
invariant-loop-member l = l.members.items ++ marked_from l.member (drop l.member l.marks) ≡ marked_from 0 l.marks
