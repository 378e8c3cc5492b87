use Rattle.std.proofs.Common.{subst, List, [], ◌∷◌, ◌++◌, length, refl, ap, ◌∙◌}
use Rattle.dp_claims.specs.Enough.{Has}
use Rattle.dom_store.specs.Chains.{row_in}
use Rattle.dom_store.specs.declared.past_node.PastNode.{PastNode}
use Rattle.dom_store.proofs.Remembering.{past_pushed, past_same}
use Rattle.dom_store.proofs.past.keep_last.Goals as goal

pub returns-in_err-reserve-clause-kept : goal.returns-in_err-reserve-clause-kept
returns-in_err-reserve-clause-kept g c =
    past_same g.K.Covers.prune g.K.Covers.minimize g.K.Covers.operator c.args.layout.now (row_in c.args.chains.now.heads.items c.args.chains.now.links.items) (row_in c.args.chains.now.heads.items c.args.chains.now.links.items) (length c.args.chains.now.links.items) (length c.args.chains.now.links.items)
    c.args.kept.now.items c.reserve.new.self.items c.requires.kept (λ k p there. there) refl c.reserve.ensures.items

pub returns-in_err-push-clause-kept : goal.returns-in_err-push-clause-kept
returns-in_err-push-clause-kept g c =
    past_same g.K.Covers.prune g.K.Covers.minimize g.K.Covers.operator c.args.layout.now (row_in c.args.chains.now.heads.items c.args.chains.now.links.items) (row_in c.push.new.self.heads.items c.push.new.self.links.items) (length c.args.chains.now.links.items) (length c.push.new.self.links.items)
    c.args.kept.now.items c.reserve.new.self.items c.requires.kept c.push.ensures.rows c.in_err-push.ensures.err_len c.reserve.ensures.items

pub returns-clause-kept : goal.returns-clause-kept
returns-clause-kept g c =
    past_pushed g.K.Covers.prune g.K.Covers.minimize g.K.Covers.operator g.met.K.Covers.reflexive c.args.layout.now (row_in c.args.chains.now.heads.items c.args.chains.now.links.items) (row_in c.push.new.self.heads.items c.push.new.self.links.items) (length c.args.chains.now.links.items) (length c.push.new.self.links.items)
    c.args.kept.now.items c.push_within.new.kept.items c.in_ok-past.past c.args.node.now c.args.key c.requires.kept c.requires.node c.in_ok-past.ensures c.requires.key
    (c.push_within.ensures ∙ ap (λ (ps : List PastNode). ps ++ c.in_ok-past.past ∷ []) c.reserve.ensures.items) c.in_ok-push.ensures.first c.push.ensures.rows c.in_ok-push.ensures.len

pub returns-clause-row : goal.returns-clause-row
returns-clause-row g c = subst (λ p. Has (row_in c.push.new.self.heads.items c.push.new.self.links.items c.args.key) p) c.requires.kept.level c.in_ok-push.ensures.first
