use Rattle.std.proofs.Common.{◌≡◌, ℤ, [], inr, refl, Some, sym, subst, FitsSigned, w64, rules}
use Rattle.std.specs.Prelude.{pos}
use Rattle.std.proofs.lemmas.Int.{to_z-of_z}
use Rattle.cost_laws.specs.Laws.{in_wide_range}
use Rattle.cost_laws.specs.Orders.{InWideRange}
use Rattle.dp_model.specs.Costs.{order_word}
use Rattle.cert_making.proofs.Starts.{base_ends, better_told, head_few, no_layers, target_shown, word_above, word_below}
use Rattle.cert_making.proofs.Wholes.{told_last}
use Rattle.cert_making.proofs.putting.after_base.Goals as goal

pub word-requires : goal.word-requires
word-requires g c =
    let fits : FitsSigned w64 c.args.cost = search rules in
    subst InWideRange (sym (to_z-of_z w64 c.args.cost fits)) (in_wide_range c.args.cost c.requires.range)

pub returns-then-word-claimed-clause-told : goal.returns-then-word-claimed-clause-told
returns-then-word-claimed-clause-told g c = λ before head.
    let m = c.args.model.now in
    let fits : FitsSigned w64 c.args.cost = search rules in
    let same = to_z-of_z w64 c.args.cost fits in
    let word = subst (λ (n : ℤ). pos c.word.result ≡ order_word g.L.CostLaw.minimize g.L.CostLaw.operator (Some n)) same c.word.ensures.word in
    let less = word_below m g.L.CostLaw.minimize g.L.CostLaw.operator c.requires.law c.args.claimed c.args.cost c.word.result word c.if-word-claimed.true in
    better_told m c.args.options.now c.args.claim.now c.args.claimed before (g.S.Sink.taken c.args.out.now) c.args.cost c.found_at_target.result
    (subst (λ (n : ℤ). c.found_at_target.result ≡ record { cost = n; steps = [] }) same c.found_at_target.ensures) c.requires.base c.requires.range c.requires.claimed less head

pub returns-clause-told : goal.returns-clause-told
returns-clause-told g c = λ before head.
    let m = c.args.model.now in
    let o = c.args.options.now in
    let fits : FitsSigned w64 c.args.cost = search rules in
    let word = subst (λ (n : ℤ). pos c.word.result ≡ order_word g.L.CostLaw.minimize g.L.CostLaw.operator (Some n)) (to_z-of_z w64 c.args.cost fits) c.word.ensures.word in
    let above = word_above m g.L.CostLaw.minimize g.L.CostLaw.operator c.requires.law c.args.claimed c.args.cost c.word.result word c.if-word-claimed.false in
    told_last m o c.args.claim.now before (g.S.Sink.taken c.args.out.now) (g.S.Sink.taken c.put_last.new.out) _ _ 0 [] (no_layers m) (head_few c.args.claim.now c.args.lines c.requires.lines.0 c.requires.lines.1) refl
    (target_shown m o c.args.claim.now c.requires.claim (inr (base_ends m c.args.claim.now c.args.claimed c.args.cost c.requires.base c.requires.claimed above)))
    head c.put_last.result c.put_last.ensures
