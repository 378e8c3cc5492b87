use Rattle.std.proofs.Common.{◌≡◌, ℕ, ◌⊎◌, inl, inr, Bool, List, Some, length, subst}
use Rattle.std.specs.List.{slice_get}
use Rattle.dp_model.specs.declared.parts.JoinOp.{JoinOp}
use Rattle.state_layout.specs.declared.layout.Layout.{Layout}
use Rattle.dom_store.specs.Chains.{row_in}
use Rattle.dom_store.specs.Past.{AreUnder, ArePastStaircases}
use Rattle.dom_store.specs.Staircases.{AreIndexed}
use Rattle.dom_store.specs.declared.past_node.PastNode.{PastNode}
use Rattle.dom_store.specs.declared.stairs.Stairs.{Stairs}
use Rattle.dom_store.proofs.past_steps.raise_past.Goals as goal

-- a staircase more, which is over what is kept of its row
past_more : (prune minimize : Bool) (operator : JoinOp) (layout : Layout) (row row' : ℕ → List ℕ) (count count' : ℕ) (stairs stairs' : List Stairs) (past : List PastNode) (new : Stairs) → ArePastStaircases prune minimize operator layout row count stairs past
    → AreIndexed row' count' stairs' → ((i : ℕ) (s : Stairs) → slice_get stairs' i ≡ Some s → (slice_get stairs i ≡ Some s) ⊎ (new ≡ s)) → AreUnder prune minimize operator layout new.row new.steps past → ArePastStaircases prune minimize operator layout row' count' stairs' past
past_more prune minimize operator layout row row' count count' stairs stairs' past new h indexed each under = record { indexed = indexed; under = λ i s at. by i s (each i s at) }
  where
    by : (i : ℕ) (s : Stairs) → (slice_get stairs i ≡ Some s) ⊎ (new ≡ s) → AreUnder prune minimize operator layout s.row s.steps past
    by i s (inl old) = h.under i s old
    by i s (inr e) = subst (λ (t : Stairs). AreUnder prune minimize operator layout t.row t.steps past) e under

pub returns-then-is_on : goal.returns-then-is_on
returns-then-is_on g c =
    past_more g.K.Covers.prune g.K.Covers.minimize g.K.Covers.operator c.args.layout.now (row_in c.args.staircases.now.chains.heads.items c.args.staircases.now.chains.links.items) (row_in c.push.new.self.chains.heads.items c.push.new.self.chains.links.items)
    (length c.args.staircases.now.chains.links.items) (length c.push.new.self.chains.links.items) c.args.staircases.now.stairs.items c.push.new.self.stairs.items c.args.kept.now c.raised-stairs.result
    c.requires.steps c.push.ensures.index c.push.ensures.stairs c.raised-stairs.ensures.steps
