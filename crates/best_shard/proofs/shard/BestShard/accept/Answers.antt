use Rattle.std.proofs.Common.{arith}
use Rattle.best_shard.proofs.Takes.{node_fits, waits_apart, took, took_none}
use Rattle.best_shard.proofs.shard.BestShard.accept.Goals as goal

pub take_in-requires-clause-past : goal.take_in-requires-clause-past
take_in-requires-clause-past g c = c.requires.2.follows.past.layout_is

pub take_in-requires-clause-layout : goal.take_in-requires-clause-layout
take_in-requires-clause-layout g c = c.requires.2.follows.layout_is

pub take_in-requires-clause-node : goal.take_in-requires-clause-node
take_in-requires-clause-node g c = node_fits c.requires.0 c.args.self.now c.requires.1 c.requires.2 c.args.letter c.requires.3

pub returns-in-Ok-clause-taken : goal.returns-in-Ok-clause-taken
returns-in-Ok-clause-taken g c = λ p r suited st may.
    let is = c.max-self.ensures in
    took p c.args.self.now r st c.args.letter may c.take_in.new.waiting (c.in-Ok.ensures.opens p st.follows.belongs.layout_is suited.covering suited.prune_is (waits_apart p c.args.self.now r st)) c.take_in.ensures.layout
    c.take_in.new.expander c.take_in.ensures.expander c.max-self.result (omega (arith, is))

pub returns-in-Err-clause-same : goal.returns-in-Err-clause-same
returns-in-Err-clause-same g c = λ p r st. took_none p c.args.self.now r st c.take_in.new.waiting c.in-Err.ensures.err.1 c.take_in.ensures.layout c.take_in.new.expander c.take_in.ensures.expander
