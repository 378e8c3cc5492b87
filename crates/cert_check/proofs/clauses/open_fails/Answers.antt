use Rattle.std.proofs.Common.{◌≡◌, ◌||◌, Bool, sym, ap, ◌∙◌}
use Rattle.dp_model.specs.declared.whole.Model.{Model}
use Rattle.cert_laws.specs.Checks.{is_covered, is_high, must}
use Rattle.cert_laws.specs.declared.answers.CertReason.TheVariants as reasons
use Rattle.cert_check.proofs.Tests.{or_true, or_false, past_covers}
use Rattle.cert_check.proofs.clauses.open_fails.Goals.{then-high, else-high}
use Rattle.cert_check.proofs.clauses.open_fails.Goals as goal

pub returns : goal.returns
returns g c =
    let m = c.args.looker.now in
    let next = c.args.next.now in
    let high : c.is_high-high.result ≡ is_high m c.args.cert.now.claim c.args.floor = c.is_high-high.ensures m (sym (c.minimize.ensures ∙ ap (λ (x : Model). x.minimize) c.model.ensures)) in
    let needless : c.if-high.needless ≡ (is_high m c.args.cert.now.claim c.args.floor || is_covered m c.args.cert.now.prune c.args.past.now.nodes next.state next.cost) =
    elim c.if-high.branch [
      | then-high w ↦ or_true _ _ _ (sym high ∙ w.if-high.true) (w.needless-is ∙ w.if-high.true)
      | else-high w ↦ or_false _ _ _ (sym high ∙ w.if-high.false) (w.needless-is ∙ w.covered-needless.ensures.test ∙ past_covers m _ _ _ _ _ c.args.past.now.nodes next c.requires.law.0 c.requires.law.1 w.layout.ensures c.requires.prune)
    ] in
    c.must.ensures ∙ ap (λ (b : Bool). must b reasons.Step) needless
