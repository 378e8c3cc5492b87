use Rattle.best_alone.proofs.search.make.Goals as goal

pub returns-clause-shard : goal.returns-clause-shard
returns-clause-shard g c = λ some. c.in_ok-shard.ensures some
