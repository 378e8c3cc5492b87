use Rattle.std.proofs.Common.{rules, ◌≡◌, sym, ap, ◌∙◌}
use Rattle.poly_terms.specs.Worth.{worth, as_bit}
use Rattle.poly_eval.specs.Bits.{none_of}
use Rattle.poly_eval.proofs.Steps.{if_ok}
use Rattle.poly_eval.proofs.Pairs.{either_pair, pair_of, tells_pair}
use Rattle.poly_eval.proofs.rows.either.Goals as goal

pub returns-clause-value : goal.returns-clause-value
returns-clause-value c =
    let one : c.of.result ≡ c.args.x.items = search rules in
    let two : c.of-2.result ≡ c.args.y.items = search rules in
    if_ok c.negated.result _ _ c.negated.ensures (λ p h v a b fits e f.
    ap as_bit (either_pair a b)
    ∙ h v (none_of 2 (pair_of a b)) (c.in_ok-neither.ensures.value v (pair_of a b) fits (tells_pair v c.of.result c.of-2.result a b (e ∙ ap (worth v) (sym one)) (f ∙ ap (worth v) (sym two))) ∙ ap (worth v) (sym c.deref.ensures.value)))
