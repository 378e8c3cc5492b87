use Rattle.std.proofs.Common.{◌≡◌, true, length, Option}
use Rattle.dp_model.specs.declared.parts.PlainValue.{PlainValue}
use Rattle.honest_states.specs.Modes.{is_known}
use Rattle.honest_states.proofs.Lists.{Matched}
use Rattle.honest_states.proofs.joining.joined_list.Given as goal

abbrev pub invariant-loop-i : goal.invariant-loop-i
invariant-loop-i l =
    (length l.both.items ≡ l.i)
    × Matched (λ k y x. (held : Option PlainValue) → is_known y held ≡ true → is_known x held ≡ true) l.a l.both.items
    × Matched (λ k y x. (held : Option PlainValue) → is_known y held ≡ true → is_known x held ≡ true) l.b l.both.items
