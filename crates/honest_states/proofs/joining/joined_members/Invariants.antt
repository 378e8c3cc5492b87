use Rattle.std.proofs.Common.{◌≡◌, Bool, true, length}
use Rattle.honest_states.specs.Modes.{is_so}
use Rattle.honest_states.proofs.Lists.{Matched}
use Rattle.honest_states.proofs.joining.joined_members.Given as goal

abbrev pub invariant-loop-j : goal.invariant-loop-j
invariant-loop-j l =
    (length l.both.items ≡ l.j) × Matched (λ k y x. (held : Bool) → is_so y held ≡ true → is_so x held ≡ true) l.a l.both.items × Matched (λ k y x. (held : Bool) → is_so y held ≡ true → is_so x held ≡ true) l.b l.both.items
