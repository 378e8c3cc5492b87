use Rattle.std.proofs.Common.{subst}
use Rattle.shard_threads.specs.Players.{AllStay}
use Rattle.shard_threads.proofs.threads.start.Goals as goal

pub spawn_with-requires-clause-keeps : goal.spawn_with-requires-clause-keeps
spawn_with-requires-clause-keeps g c κs within = λ r h.
    rw (c.of.ensures, c.of-2.ensures, c.of-3.ensures) h

pub spawn_with-requires-in-Err-after_bounds : goal.spawn_with-requires-in-Err-after_bounds
spawn_with-requires-in-Err-after_bounds g c κs within = rw c.in-Err.ensures.err c.requires

pub returns-in-Err-clause-back : goal.returns-in-Err-clause-back
returns-in-Err-clause-back g c = subst (λ v. AllStay g.P.Player.keeps v.1.now.board.now v.1.now.boxes.now v.4.items c.spawn_with-in-Err.result.items) c.in-Err.ensures.err c.spawn_with-in-Err.ensures
