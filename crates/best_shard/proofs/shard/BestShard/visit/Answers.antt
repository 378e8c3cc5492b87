use Rattle.std.proofs.Common.{sym, subst, rules}
use Rattle.dp_model.specs.declared.whole.Model.{Model}
use Rattle.state_layout.specs.Conditions.{IsNodeOf}
use Rattle.best_shard.proofs.Picks.{held_range, picked_good, picked_fits}
use Rattle.best_shard.proofs.Visits.{took, met_fault, finds_batch, finds_fault, made_fit, some_shards}
use Rattle.best_shard.proofs.shard.BestShard.visit.Goals as goal

pub add-requires-clause-layout : goal.add-requires-clause-layout
add-requires-clause-layout g c = sym c.requires.2.follows.past.layout_is

pub add-requires-clause-node : goal.add-requires-clause-node
add-requires-clause-node g c = picked_fits c.requires.0 c.args.self.now c.args.node c.requires.1 c.requires.2

pub expand-requires : goal.expand-requires
expand-requires g c =
    let h = c.requires.2 in
    subst (λ (m : Model). IsNodeOf m c.args.node) (sym h.follows.belongs.model) (picked_good c.requires.0 c.args.self.now c.args.node c.requires.1 h).0

pub take_batch-requires-clause-held : goal.take_batch-requires-clause-held
take_batch-requires-clause-held g c = held_range c.requires.0 c.args.self.now c.requires.1 c.requires.2.follows

pub take_batch-requires-clause-nodes : goal.take_batch-requires-clause-nodes
take_batch-requires-clause-nodes g c = made_fit c.requires.0 c.args.self.now c.args.node c.requires.1 c.requires.2 c.expand.new.batch c.expand.ensures.fits

pub take_batch-requires-clause-some : goal.take_batch-requires-clause-some
take_batch-requires-clause-some g c = some_shards c.requires.0 c.args.self.now c.args.node c.requires.1 c.requires.2

pub returns-in-Ok-take_batch : goal.returns-in-Ok-take_batch
returns-in-Ok-take_batch g c =
    let s = c.args.self.now in
    let e = c.in-Ok-take_batch.ensures in
    record {
      visited = λ p r suited h. took p g.L.CostLaw.minimize g.L.CostLaw.operator suited.law s c.args.node r h c.args.best c.expand.new.batch c.expand.ensures.fits c.in-Ok.ensures.batch
          c.add.new.self c.add.ensures.layout (search rules) c.expand.new.self c.expand.ensures.same c.in-Some.stamp (search rules) c.take_batch.new.self c.take_batch.ensures.frame e.letters e.clock e.log e.visited e.held c.in-Ok-take_batch.offer e.news e.word;
      found = λ p r h. finds_batch p s c.args.node r h c.args.best c.expand.new.batch c.in-Ok.ensures.batch;
      me = search rules;
    }

pub returns-in-Ok-keep_fault : goal.returns-in-Ok-keep_fault
returns-in-Ok-keep_fault g c =
    let s = c.args.self.now in
    let found = rw c.in-Err-Fault.field-0-is at c.in-Err-Fault.ensures.batch in
    record {
      visited = λ p r suited h. met_fault p s c.args.node r h c.args.best c.in-Err-Fault.spot c.in-Err-Fault.kind c.in-Err-Fault.last found
          c.add.new.self c.expand.new.self c.expand.ensures.same c.expand.new.batch c.keep_fault.new.self c.in-Ok-keep_fault.ensures.kept;
      found = λ p r h. finds_fault p s c.args.node r h c.args.best c.in-Err-Fault.spot c.in-Err-Fault.kind c.in-Err-Fault.last found;
      me = search rules;
    }
