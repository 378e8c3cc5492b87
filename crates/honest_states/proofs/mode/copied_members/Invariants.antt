use Rattle.std.proofs.Common.{◌≡◌, take}
use Rattle.honest_states.proofs.mode.copied_members.Given as goal

abbrev pub invariant-loop-known : goal.invariant-loop-known
invariant-loop-known l = l.same.items ≡ take l.known-index l.members
