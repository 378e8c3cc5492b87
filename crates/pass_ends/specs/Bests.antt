-- The better of two solutions that may be held.
use Rattle.std.specs.Prelude.{Bool, if◌then◌else◌, Option, Some, None}
use Rattle.dp_model.specs.declared.parts.JoinOp.{JoinOp}
use Rattle.pass_ledger.specs.declared.records.Held.{Held}
use Rattle.shard_core.specs.Offers.{is_better}

abbrev pub better_held : (minimize : Bool) → JoinOp → Option Held → Option Held → Option Held
better_held minimize operator None b = b
better_held minimize operator (Some a) None = Some a
better_held minimize operator (Some a) (Some b) = if is_better minimize operator b.cost a.cost then Some b else Some a
