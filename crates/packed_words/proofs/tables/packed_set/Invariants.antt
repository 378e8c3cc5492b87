use Rattle.std.proofs.Common.{◌≡◌, take}
use Rattle.state_layout.specs.Signatures.{set_words}
use Rattle.packed_words.proofs.tables.packed_set.Given as goal

-- the words of the members so far
abbrev pub invariant-loop-member : goal.invariant-loop-member
invariant-loop-member l = l.words.items ≡ set_words l.count (take l.member-index l.set)
