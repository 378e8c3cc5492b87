use Rattle.best_shard.proofs.Picks.{drops}
use Rattle.best_shard.proofs.shard.BestShard.drop_picked.Goals as goal

pub returns-clause-pruned : goal.returns-clause-pruned
returns-clause-pruned g c = λ p r best h prunes. drops p c.args.self.now c.args.node r best h prunes
