use Rattle.std.proofs.Common.{subst}
use Rattle.pass_ledger.specs.Events.{CanTake}
use Rattle.pass_ledger.specs.declared.mail.Letter.{Letter}
use Rattle.shard_core.proofs.shard.Shard.accept.Goals as goal

pub accept_state-requires : goal.accept_state-requires
accept_state-requires g c = (c.requires.0, c.requires.1, c.requires.2, subst (λ (x : Letter). CanTake c.requires.0 c.requires.1 x) c.in-State.is c.requires.3)

pub accept_mark-requires : goal.accept_mark-requires
accept_mark-requires g c = (c.requires.0, c.requires.1, c.requires.2, subst (λ (x : Letter). CanTake c.requires.0 c.requires.1 x) c.in-Mark.is c.requires.3)
