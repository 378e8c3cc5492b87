use Rattle.std.proofs.Common.{◌<◌, length, get_or, None, false, arith, refl, subst}
use Rattle.cert_types.specs.declared.nodes.CertNode.{CertNode}
use Rattle.cert_check.specs.declared.standings.Standing.{Standing}
use Rattle.cert_check.specs.Looked.{StandingFits}
use Rattle.cert_check.proofs.Copied.{copy_found}
use Rattle.cert_check.proofs.Rows.{at_default, at_place}
use Rattle.cert_check.proofs.copies.is_copy.Goals as goal

pub is_seen-requires-clause-here : goal.is_seen-requires-clause-here
is_seen-requires-clause-here g c =
    let within : c.args.place < length c.args.standings.now = omega (arith, c.requires.within, c.requires.level) in
    subst (λ (s : Standing). StandingFits c.args.looker.now s) c.in-Stands.is
    (c.requires.fits c.args.place c.index-standings-place.result (at_place c.args.standings.now c.args.place c.index-standings-place.result within c.index-standings-place.is))

pub returns-in-Stands : goal.returns-in-Stands
returns-in-Stands g c =
    let within : c.args.place < length c.args.standings.now = omega (arith, c.requires.within, c.requires.level) in
    let copy : CertNode = get_or c.args.nodes.now c.args.place (record { made = None; cut = false }) in
    copy_found c.args.share c.args.nodes.now c.args.standings.now c.args.place copy c.index-standings-place.result c.in-Stands.here c.is_seen.result
    (at_default c.args.nodes.now c.args.nodes.now c.args.place (record { made = None; cut = false }) refl c.requires.within) c.if-nodes-place.false
    (at_place c.args.standings.now c.args.place c.index-standings-place.result within c.index-standings-place.is) c.in-Stands.is c.is_seen.ensures
