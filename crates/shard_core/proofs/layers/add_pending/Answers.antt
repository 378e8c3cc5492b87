use Rattle.std.proofs.Common.{◌∙◌}
use Rattle.dom_store.specs.Covering.{covers}
use Rattle.shard_core.proofs.Rows.{all_joined, left_in, none_left, still_joined}
use Rattle.shard_core.proofs.layers.add_pending.Goals as goal

pub returns-in_err-add_all-clause-fits : goal.returns-in_err-add_all-clause-fits
returns-in_err-add_all-clause-fits g c =
    let test = covers g.K.Covers.prune g.K.Covers.minimize g.K.Covers.operator c.args.layout.now in
    (c.add_all.ensures.layout ∙ c.requires.0, λ n h. c.requires.1 n (left_in test _ _ _ _ c.in_err-add_all.ensures.err n h))

pub returns-clause-fits : goal.returns-clause-fits
returns-clause-fits g c = (c.add_all.ensures.layout ∙ c.requires.0, none_left _ _ c.in_ok-add_all.ensures.emptied)

pub returns-in_err-add_all-clause-in_turn : goal.returns-in_err-add_all-clause-in_turn
returns-in_err-add_all-clause-in_turn g c =
    let test = covers g.K.Covers.prune g.K.Covers.minimize g.K.Covers.operator c.args.layout.now in
    still_joined test c.args.layer.now.nodes.nodes c.args.layer.now.pending.items c.add_all.new.self.nodes c.add_all.new.nodes.items c.in_err-add_all.ensures.err

pub returns-clause-in_turn : goal.returns-clause-in_turn
returns-clause-in_turn g c =
    let test = covers g.K.Covers.prune g.K.Covers.minimize g.K.Covers.operator c.args.layout.now in
    all_joined test c.args.layer.now.nodes.nodes c.args.layer.now.pending.items c.add_all.new.self.nodes c.add_all.new.nodes.items c.in_ok-add_all.ensures.added c.in_ok-add_all.ensures.emptied
