use Rattle.model_gen.proofs.Steps.{more_ways}
use Rattle.model_gen.proofs.problems.push_ways.Goals as goal

pub loop-to-preserved : goal.loop-to-preserved
loop-to-preserved c = more_ways c.args.from c.loop-to.to c.args.ways.now.items c.loop-to.ways.items c.push_way.new.ways.items c.in_ok-push_way.ensures c.loop-to.invariant
