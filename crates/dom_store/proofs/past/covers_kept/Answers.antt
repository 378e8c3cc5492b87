use Rattle.dom_store.proofs.Under.{covers_kept}
use Rattle.dom_store.proofs.past.covers_kept.Goals as goal

pub returns : goal.returns
returns g c = λ yes. covers_kept g.K.Covers.prune g.K.Covers.minimize g.K.Covers.operator c.args.layout.now c.args.node.now c.args.past.now c.word-word.result c.word-held.result c.replaces.result c.word-word.ensures c.word-held.ensures c.if-held-word.false c.replaces.ensures yes
