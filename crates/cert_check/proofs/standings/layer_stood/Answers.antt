use Rattle.std.proofs.Common.{◌≡◌, ◌++◌, ◌∷◌, [], subst, sym, refl, None, false, get_or, List}
use Rattle.cert_types.specs.declared.nodes.CertNode.{CertNode}
use Rattle.cert_check.specs.declared.standings.Standing.{Standing}
use Rattle.cert_check.specs.Looked.{AllFit, found, stood}
use Rattle.cert_check.proofs.Rows.{at_default, fits_more, map_take_more}
use Rattle.cert_check.proofs.standings.layer_stood.Goals as goal

pub loop-n-preserved : goal.loop-n-preserved
loop-n-preserved g c =
    let m = c.args.looker.now in
    let s : Standing = c.in_ok-stood.field-0 in
    let n : CertNode = get_or c.args.nodes.now c.loop-n.n-index (record { made = None; cut = false }) in
    let items : c.push.new.self.items ≡ c.loop-n.all.items ++ s ∷ [] = rw c.in_ok-push.was at c.push.ensures.items in (
      map_take_more found (λ (x : CertNode). stood m c.args.before.now x.made) c.loop-n.all.items c.push.new.self.items s c.args.nodes.now c.loop-n.n-index n items c.loop-n.invariant.0 c.in_ok-stood.ensures.found
          (at_default c.args.nodes.now c.args.nodes.now c.loop-n.n-index (record { made = None; cut = false }) refl c.loop-n-test.true),
      subst (λ (xs : List Standing). AllFit m xs) (sym items) (fits_more m c.loop-n.all.items s c.loop-n.invariant.1 c.in_ok-stood.ensures.fits),
    )
