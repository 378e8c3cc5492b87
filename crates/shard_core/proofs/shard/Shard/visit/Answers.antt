use Rattle.std.proofs.Common.{refl, sym, subst, ◌∙◌, rules}
use Rattle.dp_model.specs.declared.whole.Model.{Model}
use Rattle.state_layout.specs.Conditions.{IsNodeOf}
use Rattle.shard_core.proofs.Ranges.{held_range}
use Rattle.shard_core.proofs.Tells.{head_good}
use Rattle.shard_core.proofs.Visits.{first_is, took, met_fault, finds_batch, finds_fault}
use Rattle.shard_core.proofs.shard.Shard.visit.Goals as goal

pub expand-requires : goal.expand-requires
expand-requires g c =
    let st = c.requires.2 in
    subst (λ (m : Model). IsNodeOf m c.in-Some.node) (sym st.belongs.model) (head_good c.requires.0 c.args.self.now c.requires.1 st c.in-Some.node c.pop_front.new.self.items (sym st.waiting ∙ first_is c.pop_front.new.self.items c.in-Some.ensures.items refl)).0

pub take_batch-requires-clause-held : goal.take_batch-requires-clause-held
take_batch-requires-clause-held g c = held_range c.requires.0 c.args.self.now c.requires.1 c.requires.2

pub returns-in-Ok-take_batch : goal.returns-in-Ok-take_batch
returns-in-Ok-take_batch g c =
    let s = c.args.self.now in
    let e = c.in-Ok-take_batch.ensures in
    record {
      visited = λ p r suited st _. took p g.L.CostLaw.minimize g.L.CostLaw.operator suited.law s r st c.in-Some.node c.pop_front.new.self.items (first_is c.pop_front.new.self.items c.in-Some.ensures.items refl) c.args.best c.expand.new.batch c.expand.ensures.fits c.in-Ok.ensures.batch
          c.pop_front.new.self refl c.expand.new.self c.expand.ensures.same c.take_batch.new.self c.take_batch.ensures.frame e.letters e.total e.fits e.log e.visited e.held c.in-Ok-take_batch.offer e.news e.word;
      found = λ p r st. finds_batch p s r st c.in-Some.node c.pop_front.new.self.items (first_is c.pop_front.new.self.items c.in-Some.ensures.items refl) c.args.best c.expand.new.batch c.in-Ok.ensures.batch;
      me = search rules;
    }

pub returns-in-Ok-keep_fault : goal.returns-in-Ok-keep_fault
returns-in-Ok-keep_fault g c =
    let s = c.args.self.now in
    let found = rw c.in-Err-Fault.field-0-is at c.in-Err-Fault.ensures.batch in
    record {
      visited = λ p r suited st _. met_fault p s r st c.in-Some.node c.pop_front.new.self.items (first_is c.pop_front.new.self.items c.in-Some.ensures.items refl) c.args.best c.in-Err-Fault.spot c.in-Err-Fault.kind c.in-Err-Fault.last found
          c.pop_front.new.self c.expand.new.self c.expand.ensures.same c.expand.new.batch c.keep_fault.new.self c.in-Ok-keep_fault.ensures.kept;
      found = λ p r st. finds_fault p s r st c.in-Some.node c.pop_front.new.self.items (first_is c.pop_front.new.self.items c.in-Some.ensures.items refl) c.args.best c.in-Err-Fault.spot c.in-Err-Fault.kind c.in-Err-Fault.last found;
      me = search rules;
    }
