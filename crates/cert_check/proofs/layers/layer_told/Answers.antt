use Rattle.std.proofs.Common.{arith, refl, sym, ap, subst, ◌∙◌, Some, None, false, ℕ, ◌+◌, ◌<◌, ◌≤◌, ◌≡◌, length, slice_get, get_or, List}
use Rattle.eval_room.specs.Needs.{ServesModel}
use Rattle.cert_types.specs.declared.nodes.CertNode.{CertNode}
use Rattle.cert_laws.specs.declared.answers.CertReason.TheVariants as reasons
use Rattle.cert_laws.specs.declared.answers.Checked.TheVariants.{No}
use Rattle.cert_check.specs.declared.standings.Standing.{Standing}
use Rattle.cert_check.specs.declared.standings.Standing.TheVariants.{Fails}
use Rattle.cert_laws.specs.Shown.{layer_of}
use Rattle.cert_laws.specs.PartChecks.{node_fails_in}
use Rattle.cert_check.specs.Looked.{IsShareOf}
use Rattle.cert_check.proofs.Alike.{fails_alike}
use Rattle.cert_check.proofs.Rows.{at_default, fine_more, layer_no, layer_yes, line_fits, same_length}
use Rattle.cert_check.proofs.layers.layer_told.Goals as goal

pub line_fails-requires-clause-level : goal.line_fails-requires-clause-level
line_fails-requires-clause-level g c = same_length c.args.looker.now c.args.cert.now c.args.l c.args.standings.now c.requires.found ∙ sym (ap length c.nodes_of-nodes.ensures)

pub line_fails-requires-clause-share : goal.line_fails-requires-clause-share
line_fails-requires-clause-share g c = subst (λ (ns : List CertNode). IsShareOf c.args.share ns) (sym c.nodes_of-nodes.ensures) c.requires.share

pub line_fails-requires-clause-before : goal.line_fails-requires-clause-before
line_fails-requires-clause-before g c = λ k n s less at stands.
    let there : slice_get (layer_of c.args.cert.now.layers c.args.l) k ≡ Some n = ap (λ (ns : List CertNode). slice_get ns k) (sym c.nodes_of-nodes.ensures) ∙ at in
    fails_alike c.args.looker.now c.args.cert.now _ c.args.share c.args.l c.args.standings.now c.args.past.now.nodes k n s c.requires.prune c.requires.found c.requires.before c.requires.past stands ∙ c.loop-place.invariant.0 k n less there

pub overflow_add-line : goal.overflow_add-line
overflow_add-line g c =
    let within = subst (λ (n : ℕ). c.loop-place.place < n) (ap length c.nodes_of-nodes.ensures) c.loop-place-test.true in
    let fits = line_fits c.args.cert.now c.args.l c.args.line c.loop-place.place c.requires.there c.requires.line within in
    omega (arith, fits)

pub overflow_add-line-in-Some : goal.overflow_add-line-in-Some
overflow_add-line-in-Some g c =
    let within = subst (λ (n : ℕ). c.loop-place.place < n) (ap length c.nodes_of-nodes.ensures) c.loop-place-test.true in
    let fits = line_fits c.args.cert.now c.args.l c.args.line c.loop-place.place c.requires.there c.requires.line within in
    omega (arith, fits)

pub returns-in-Some : goal.returns-in-Some
returns-in-Some g c =
    let m = c.args.looker.now in
    let cert = c.args.cert.now in
    let nodes = c.nodes_of-nodes.result.now in
    let place = c.loop-place.place in
    let within = subst (λ (n : ℕ). place < n) (ap length c.nodes_of-nodes.ensures ∙ sym (same_length m cert c.args.l c.args.standings.now c.requires.found)) c.loop-place-test.true in
    let n : CertNode = get_or nodes place (record { made = None; cut = false }) in
    let s : Standing = get_or c.args.standings.now place (Fails reasons.Node) in
    let here : slice_get nodes place ≡ Some n = at_default nodes nodes place (record { made = None; cut = false }) refl c.loop-place-test.true in
    let at : slice_get (layer_of cert.layers c.args.l) place ≡ Some n = at_default nodes (layer_of cert.layers c.args.l) place (record { made = None; cut = false }) c.nodes_of-nodes.ensures c.loop-place-test.true in
    let stands : slice_get c.args.standings.now place ≡ Some s = at_default c.args.standings.now c.args.standings.now place (Fails reasons.Node) refl within in
    let fails : node_fails_in c.args.share.part m cert c.args.l place n ≡ Some c.in-Some.reason = sym (fails_alike m cert _ c.args.share c.args.l c.args.standings.now c.args.past.now.nodes place n s c.requires.prune c.requires.found c.requires.before c.requires.past stands) ∙ sym (c.in_ok-fails.ensures n s here stands) ∙ c.in-Some.is in
    sym (layer_no c.args.share.part m cert c.args.l place n c.in-Some.reason (layer_of cert.layers c.args.l) c.loop-place.invariant.0 at fails ∙ ap (λ (k : ℕ). No (k + 1 + place) c.in-Some.reason) (sym c.requires.line))

pub loop-place-preserved : goal.loop-place-preserved
loop-place-preserved g c =
    let m = c.args.looker.now in
    let cert = c.args.cert.now in
    let nodes = c.nodes_of-nodes.result.now in
    let place = c.loop-place.place in
    let within = subst (λ (n : ℕ). place < n) (ap length c.nodes_of-nodes.ensures ∙ sym (same_length m cert c.args.l c.args.standings.now c.requires.found)) c.loop-place-test.true in
    let n : CertNode = get_or nodes place (record { made = None; cut = false }) in
    let s : Standing = get_or c.args.standings.now place (Fails reasons.Node) in
    let here : slice_get nodes place ≡ Some n = at_default nodes nodes place (record { made = None; cut = false }) refl c.loop-place-test.true in
    let at : slice_get (layer_of cert.layers c.args.l) place ≡ Some n = at_default nodes (layer_of cert.layers c.args.l) place (record { made = None; cut = false }) c.nodes_of-nodes.ensures c.loop-place-test.true in
    let stands : slice_get c.args.standings.now place ≡ Some s = at_default c.args.standings.now c.args.standings.now place (Fails reasons.Node) refl within in
    let none : node_fails_in c.args.share.part m cert c.args.l place n ≡ None = sym (fails_alike m cert _ c.args.share c.args.l c.args.standings.now c.args.past.now.nodes place n s c.requires.prune c.requires.found c.requires.before c.requires.past stands) ∙ sym (c.in_ok-fails.ensures n s here stands) ∙ c.in_default.is in (
      fine_more c.args.share.part m cert c.args.l place (layer_of cert.layers c.args.l) n c.loop-place.invariant.0 at none,
      subst (λ (n : ℕ). ServesModel m n) (sym c.line_fails.auto.stack) c.loop-place.invariant.1,
    )

pub returns : goal.returns
returns g c = layer_yes c.args.share.part c.args.looker.now c.args.cert.now c.args.l c.loop-place.place (layer_of c.args.cert.now.layers c.args.l) c.loop-place.invariant.0 (subst (λ (n : ℕ). n ≤ c.loop-place.place) (ap length c.nodes_of-nodes.ensures) c.loop-place-test.false)
