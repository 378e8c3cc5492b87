use Rattle.std.proofs.Common.{◌∙◌, List, ap, sym, take}
use Rattle.dom_store.specs.declared.past_node.PastNode.{PastNode}
use Rattle.cert_laws.specs.Checks.{if_stands}
use Rattle.cert_check.specs.Looked.{found, pasts, with_new}
use Rattle.cert_check.proofs.Alike.{new_append, pasts_more}
use Rattle.cert_check.proofs.Rows.{at_place}
use Rattle.cert_check.proofs.standings.remember.Goals as goal

pub remember_standing-requires-clause-fits : goal.remember_standing-requires-clause-fits
remember_standing-requires-clause-fits g c = c.requires.fits c.loop-standing.standing-index c.standing-item.result (at_place c.args.standings.now c.loop-standing.standing-index c.standing-item.result c.loop-standing-test.true c.standing-item.is)

pub loop-standing-preserved : goal.loop-standing-preserved
loop-standing-preserved g c =
    let m = c.args.looker.now in
    let prune = g.K.Covers.prune in
    let front = pasts (take c.loop-standing.standing-index c.args.standings.now) in
    let one = if_stands (found c.standing-item.result) in
    let at = at_place c.args.standings.now c.loop-standing.standing-index c.standing-item.result c.loop-standing-test.true c.standing-item.is in (
      c.in_ok-remember_standing.ensures.nodes
          ∙ ap (λ (ns : List PastNode). with_new m prune ns one) c.loop-standing.invariant.0
          ∙ sym (new_append m prune c.args.past.now.nodes front one)
          ∙ ap (with_new m prune c.args.past.now.nodes) (sym (pasts_more c.args.standings.now c.loop-standing.standing-index c.standing-item.result at)),
      c.remember_standing.ensures.layout ∙ c.loop-standing.invariant.1,
    )
