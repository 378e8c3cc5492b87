use Rattle.state_layout.specs.declared.node.Node.{Node}
use Rattle.best_shard.proofs.Picks.{picks, picks_first, picks_none, if_some, if_none}
use Rattle.best_shard.proofs.shard.BestShard.pick.Goals as goal

pub returns-clause-picked : goal.returns-clause-picked
returns-clause-picked g c = λ p r st.
    if_some c.pop_best.result (λ (n : Node) best. picks p c.args.self.now r st g.L.CostLaw.minimize g.L.CostLaw.operator n c.pop_best.new.self best c.pop_best.ensures.layout) c.pop_best.ensures.some

pub returns-clause-first : goal.returns-clause-first
returns-clause-first g c = λ p r suited st.
    if_some c.pop_best.result (λ (n : Node) best. picks_first p c.args.self.now r st g.L.CostLaw.minimize g.L.CostLaw.operator suited.law n c.pop_best.new.self.nodes best) c.pop_best.ensures.some

pub returns-clause-none : goal.returns-clause-none
returns-clause-none g c = λ p r st. if_none c.pop_best.result (λ none. picks_none p c.args.self.now r st c.pop_best.new.self none.0 none.1 c.pop_best.ensures.layout) c.pop_best.ensures.none
