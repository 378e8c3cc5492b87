use Rattle.std.proofs.Common.{◌≡◌, ℕ, ◌<◌, ◌≤◌}
use Rattle.state_layout.specs.Packing.{word_in}
use Rattle.packed_words.proofs.scene.first_after.Given as goal

-- the words so far have no member
abbrev pub invariant-loop-k : goal.invariant-loop-k
invariant-loop-k l = (j : ℕ) → l.number ≤ j → j < l.k → word_in l.at.words.now l.v j ≡ 0
