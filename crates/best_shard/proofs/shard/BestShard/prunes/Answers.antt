use Rattle.best_shard.proofs.Picks.{picked_wide, tells_pruned}
use Rattle.best_shard.proofs.shard.BestShard.prunes.Goals as goal

pub is_pruned-requires : goal.is_pruned-requires
is_pruned-requires g c = picked_wide c.requires.0 c.args.self.now c.args.node.now c.requires.1 c.requires.2

pub returns : goal.returns
returns g c = λ p r suited h. tells_pruned p g.L.CostLaw.minimize g.L.CostLaw.operator suited.law c.args.node.now c.args.best c.is_pruned.result c.is_pruned.ensures.pruned c.is_pruned.ensures.kept
