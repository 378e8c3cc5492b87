use Rattle.std.proofs.Common.{◌≡◌, refl, true, false, sym, subst}
use Rattle.state_layout.specs.Conditions.{IsNodeFor}
use Rattle.state_layout.specs.declared.node.Node.{Node}
use Rattle.dom_store.specs.Past.{IsPast}
use Rattle.best_shard.proofs.Opens.{opens_new, opens_same, if_ok}
use Rattle.best_shard.proofs.opening.take_in.Goals as goal

pub covered-requires-clause-layout : goal.covered-requires-clause-layout
covered-requires-clause-layout g c = sym c.requires.past

pub covered-requires-clause-node : goal.covered-requires-clause-node
covered-requires-clause-node g c = subst (λ (n : Node). IsNodeFor c.args.layout.now n) (sym c.get.ensures) c.requires.node

pub returns-then-covered-clause-opens : goal.returns-then-covered-clause-opens
returns-then-covered-clause-opens g c = λ p of law prune apart.
    opens_same p g.K.Covers.prune prune c.args.past.now.nodes c.args.waiting.now.nodes c.args.node apart
    (subst (λ (n : Node). IsPast p.model g.K.Covers.prune c.args.past.now.nodes n) c.get.ensures ((c.if-covered.ensures.covering p.model of law).0 refl))

pub returns-clause-opens : goal.returns-clause-opens
returns-clause-opens g c = λ p of law prune apart.
    if_ok c.add_new.result
    (opens_new p g.K.Covers.prune prune c.args.past.now.nodes c.args.waiting.now.nodes c.args.node c.add_new.new.waiting.nodes
    (λ past. not_true ((c.if-covered.ensures.covering p.model of law).1 (subst (λ (n : Node). IsPast p.model g.K.Covers.prune c.args.past.now.nodes n) (sym c.get.ensures) past))))
    (c.add_new.ensures.opens p of law prune)
  where
    not_true : false ≡ true → ⊥
    not_true e = cc
