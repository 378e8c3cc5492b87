use Rattle.cert_making.proofs.Starts.{cut_layers, cut_shown, cut_few, high_in}
use Rattle.cert_making.proofs.Wholes.{told_target}
use Rattle.cert_making.proofs.putting.after_open.Goals as goal

pub is_cut-requires : goal.is_cut-requires
is_cut-requires g c = c.requires.node.floor

pub returns-then-is_cut-clause-told : goal.returns-then-is_cut-clause-told
returns-then-is_cut-clause-told g c = λ before head.
    let m = c.args.model.now in
    let o = c.args.options.now in
    told_target m o c.args.claim.now before (g.S.Sink.taken c.args.out.now) (g.S.Sink.taken c.put_target.new.out) _ _ (cut_layers m) (cut_few c.args.claim.now c.args.lines c.requires.lines.0 c.requires.lines.1)
    (cut_shown m o c.args.claim.now c.args.claimed c.args.node c.requires.claim c.requires.inner c.requires.start c.requires.claimed (high_in m g.L.CostLaw.minimize g.L.CostLaw.operator c.requires.law c.args.claimed c.args.node.floor (c.is_cut.ensures c.if-is_cut.true)))
    head c.put_target.result c.put_target.ensures
