use Rattle.pass_ledger.specs.declared.mail.Letter.TheVariants.{State}
use Rattle.std.proofs.Common.{refl}
use Rattle.pass_ledger.specs.Events.{take}
use Rattle.shard_core.proofs.Accepts.{not_closed, node_fits, state_of, same_expander, accept_none}
use Rattle.shard_core.proofs.shard.Shard.accept_state.Goals as goal

pub overflow_sub-place : goal.overflow_sub-place
overflow_sub-place g c = not_closed c.requires.0 c.args.self.now c.requires.1 c.requires.2 (State c.args.from c.args.layer c.args.node) c.requires.3

pub collect-requires-clause-node : goal.collect-requires-clause-node
collect-requires-clause-node g c = node_fits c.requires.0 c.args.self.now c.requires.1 c.requires.2 (State c.args.from c.args.layer c.args.node) c.requires.3 c.args.from c.args.layer c.args.node refl

pub returns-in-Ok-clause-taken : goal.returns-in-Ok-clause-taken
returns-in-Ok-clause-taken g c = λ p r suited st can.
    let same = c.give_spare.ensures.layers in
    same_expander p (take r (State c.args.from c.args.layer c.args.node)) (record c.args.self.now { collected = c.give_spare.new.layers }) c.give_spare.new.expander c.give_spare.ensures.expander
    (state_of p c.args.self.now r st c.args.from c.args.layer c.args.node can c.give_spare.new.layers (rw same c.collect.ensures.layouts)
    (rw same (c.in-Ok.ensures.merged p st.belongs.layout_is suited.covering suited.prune_is)) (rw same c.collect.ensures.others) (rw same c.collect.ensures.busy))

pub returns-in-Err-clause-same : goal.returns-in-Err-clause-same
returns-in-Err-clause-same g c = λ p r st. accept_none p c.args.self.now r st c.collect.new.layers c.collect.ensures.layouts c.in-Err.ensures.same c.collect.ensures.busy
