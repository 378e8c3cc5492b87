use Rattle.std.proofs.Common.{◌≡◌, ℕ, ◌^◌, ◌<◌, map, get_or}
use Rattle.std.specs.List.{range_with_len}
use Rattle.state_layout.specs.Packing.{members_in}
use Rattle.state_layout.specs.Signatures.{set_word}
use Rattle.state_layout.specs.Keys.{key_onto}
use Rattle.state_layout.proofs.keys.key_set.Given as goal

abbrev pub invariant-loop-number : goal.invariant-loop-number
invariant-loop-number l = (l.mixed ≡ key_onto l.key (map (set_word (members_in l.words l.place)) (range_with_len 0 l.number))) × ((j : ℕ) → get_or l.words j 0 < 2 ^ 64)
