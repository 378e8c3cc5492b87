use Rattle.std.proofs.Common.{◌≡◌, ℕ, ◌<◌, get_or}
use Rattle.state_layout.specs.Packing.{word_in}
use Rattle.packed_words.proofs.scene.copy_set.Given as goal

-- the words so far are those of the set
abbrev pub invariant-loop-number : goal.invariant-loop-number
invariant-loop-number l = (j : ℕ) → j < l.number → get_or l.out j 0 ≡ word_in l.at.words.now l.v j
