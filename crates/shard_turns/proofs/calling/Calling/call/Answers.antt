use Rattle.std.proofs.Common.{subst, w64}
use Rattle.std.proofs.lemmas.Int.{to_z-of_z}
use Rattle.shard_turns.proofs.Called.{call_is}
use Rattle.shard_turns.specs.Calls.{IsCall}
use Rattle.shard_turns.proofs.calling.Calling.call.Goals as goal

pub returns-clause-call : goal.returns-clause-call
returns-clause-call g c =
    subst (λ z. IsCall z c.args.self.now.caller c.call.new.caller) (to_z-of_z w64 c.args.cost c.ranges.cost) (call_is c.call.result _ c.args.self.now.caller c.call.new.caller c.call.ensures.ok c.call.ensures.err)
