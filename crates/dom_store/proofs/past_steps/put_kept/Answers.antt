use Rattle.std.proofs.Common.{◌≡◌, Some, sym, ◌∙◌, subst}
use Rattle.dp_model.specs.Costs.{order_word}
use Rattle.state_layout.specs.Merits.{merit_of}
use Rattle.dom_store.specs.Stairs.{IsUnder}
use Rattle.dom_store.specs.declared.past_node.PastNode.{PastNode}
use Rattle.dom_store.proofs.Remembering.{there_at}
use Rattle.dom_store.proofs.Under.{under_is}
use Rattle.dom_store.proofs.past_steps.put_kept.Goals as goal

pub past_glance-requires : goal.past_glance-requires
past_glance-requires g c = c.requires.kept c.in-Some.past.now (c.args.place, there_at c.args.kept.now c.args.place c.in-Some.past.now c.in-Some.ensures.lookup.3.0 c.in-Some.ensures.lookup.1)

pub returns-clause-under : goal.returns-clause-under
returns-clause-under g c = λ on of_key n there.
    let is : Some c.in-Some.past.now ≡ Some n = sym (there_at c.args.kept.now c.args.place c.in-Some.past.now c.in-Some.ensures.lookup.3.0 c.in-Some.ensures.lookup.1) ∙ there in
    let same : c.in-Some.past.now ≡ n = cc in
    subst (λ (x : PastNode). IsUnder c.put_over.new.self.steps (order_word g.K.Covers.minimize g.K.Covers.operator x.cost) (merit_of c.args.layout.now x.state)) same
    (under_is c.put_over.new.self.steps c.past_glance.result (order_word g.K.Covers.minimize g.K.Covers.operator c.in-Some.past.now.cost) (merit_of c.args.layout.now c.in-Some.past.now.state) c.past_glance.ensures.word c.past_glance.ensures.merit (c.put_over.ensures.under on))
