use Rattle.std.proofs.Common.{◌≡◌, ◌++◌, drop, map}
use Rattle.state_layout.specs.Signatures.{set_words}
use Rattle.packed_words.proofs.tables.packed_sets.Given as goal

-- the words so far and those of the sets that are left are all
abbrev pub invariant-loop-set : goal.invariant-loop-set
invariant-loop-set l = l.packed.items ++ map (set_words l.count) (drop l.set-index l.sets) ≡ map (set_words l.count) l.sets
