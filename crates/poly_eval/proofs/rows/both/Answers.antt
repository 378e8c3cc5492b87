use Rattle.std.proofs.Common.{rules, ◌≡◌, ℕ, Bool, not, ℤ, sym, ap, ◌∙◌}
use Rattle.poly_terms.specs.Worth.{worth, as_bit}
use Rattle.poly_eval.proofs.Steps.{if_ok}
use Rattle.poly_eval.proofs.Pairs.{both_pair, pair_of, tells_pair}
use Rattle.poly_eval.proofs.rows.both.Goals as goal

pub returns-clause-value : goal.returns-clause-value
returns-clause-value c =
    let first : (v : ℕ → ℤ) (a : Bool) → as_bit a ≡ worth v c.args.x.items → as_bit (not a) ≡ worth v c.in_ok-negated.field-0.items = search rules in
    let second : (v : ℕ → ℤ) (b : Bool) → as_bit b ≡ worth v c.args.y.items → as_bit (not b) ≡ worth v c.in_ok-negated-2.field-0.items = search rules in
    let one : c.of.result ≡ c.in_ok-negated.field-0.items = search rules in
    let two : c.of-2.result ≡ c.in_ok-negated-2.field-0.items = search rules in
    if_ok c.none_in.result _ _ c.none_in.ensures.value (λ p h v a b fits e f.
    ap as_bit (both_pair a b) ∙ h v (pair_of (not a) (not b)) fits (tells_pair v c.of.result c.of-2.result (not a) (not b) (first v a e ∙ ap (worth v) (sym one)) (second v b f ∙ ap (worth v) (sym two))))
