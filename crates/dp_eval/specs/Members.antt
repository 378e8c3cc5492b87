-- The members of a set that was evaluated, wherever they lie.
use Rattle.std.specs.Prelude.{ℕ, List}
use Rattle.dp_eval.specs.declared.members.Held.{Held}
use Rattle.dp_eval.specs.declared.members.Held.TheVariants.{Lent, Own}

abbrev pub members_held : Held → List ℕ
members_held (Lent set) = set.now
members_held (Own set) = set
