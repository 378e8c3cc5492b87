use Rattle.std.proofs.Common.{◌<◌, length, get_or, None, false, arith, refl}
use Rattle.cert_types.specs.declared.nodes.CertNode.{CertNode}
use Rattle.cert_check.specs.Looked.{has_in_layer}
use Rattle.cert_check.proofs.Copied.{copy_fails, fails_there}
use Rattle.cert_check.proofs.Rows.{at_default, at_place}
use Rattle.cert_check.proofs.layers.line_fails.Goals as goal

pub node_fails-requires-clause-fits : goal.node_fails-requires-clause-fits
node_fails-requires-clause-fits g c =
    let within : c.args.place < length c.args.standings.now = omega (arith, c.requires.within, c.requires.level) in
    c.requires.fits c.args.place c.index-standings-place.result (at_place c.args.standings.now c.args.place c.index-standings-place.result within c.index-standings-place.is)

pub returns-then-copied : goal.returns-then-copied
returns-then-copied g c = copy_fails c.args.looker.now c.args.cert.now c.args.past.now.nodes c.args.share c.args.nodes.now c.args.standings.now c.args.place (c.in_ok-copied.ensures c.if-copied.true) c.requires.before

pub returns : goal.returns
returns g c =
    let within : c.args.place < length c.args.standings.now = omega (arith, c.requires.within, c.requires.level) in
    let n : CertNode = get_or c.args.nodes.now c.args.place (record { made = None; cut = false }) in
    fails_there c.args.looker.now c.args.cert.now c.args.past.now.nodes c.has-looked.result (has_in_layer c.args.share c.args.place) c.args.nodes.now c.args.standings.now c.args.place n c.index-standings-place.result c.node_fails.result
    c.has-looked.ensures
    (at_default c.args.nodes.now c.args.nodes.now c.args.place (record { made = None; cut = false }) refl c.requires.within)
    (at_place c.args.standings.now c.args.place c.index-standings-place.result within c.index-standings-place.is) c.node_fails.ensures
