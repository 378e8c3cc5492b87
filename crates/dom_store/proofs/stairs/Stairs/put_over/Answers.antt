use Rattle.dom_store.proofs.Under.{put_after}
use Rattle.dom_store.proofs.stairs.Stairs.put_over.Goals as goal

pub returns-else-not-put-clause-others : goal.returns-else-not-put-clause-others
returns-else-not-put-clause-others c = λ k on. put_after c.args.self.now.steps c.remove_under.new.self.steps c.put.new.self.steps c.args.glance c.args.place c.remove_under.ensures.others (c.put.ensures.has c.if-not-put.false)
