use Rattle.std.proofs.Common.{rules, ◌≡◌, ℕ, Bool, true, not, if◌then◌else◌, List, length, ℤ, sym, ap, ◌∙◌, subst}
use Rattle.dp_model.specs.Evaluation.{has}
use Rattle.poly_terms.specs.declared.terms.Term.{Term}
use Rattle.poly_terms.specs.Worth.{worth, as_bit}
use Rattle.poly_terms.specs.Fits.{Fits}
use Rattle.poly_eval.specs.Bits.{Tells, none_of}
use Rattle.poly_eval.proofs.Steps.{if_ok, fits_before}
use Rattle.poly_eval.proofs.SetSteps.{same_is}
use Rattle.dp_model.specs.Typing.{is_set_below}
use Rattle.poly_eval.proofs.sets.is_same.Goals as goal

pub returns-clause-value : goal.returns-clause-value
returns-clause-value c =
    let many : length c.in_ok-row.row.items ≡ length c.args.x.items = search rules in
    let alike : length c.args.x.items ≡ length c.args.y.items = search rules in
    let tells : (v : ℕ → ℤ) (f g : ℕ → Bool) → Fits c.args.table.now.items v → Tells v c.args.x.items f → Tells v c.args.y.items g → Tells v c.in_ok-row.row.items (λ j. if f j then not (g j) else g j) = search rules in
    if_ok c.none_in.result _ _ c.none_in.ensures.value (λ p h v a b fits xs ys.
    let held = subst (λ (rows : List (List Term)). (v : ℕ → ℤ) (f : ℕ → Bool) → Fits c.none_in.new.table.items v → Tells v rows f → as_bit (none_of (length rows) f) ≡ worth v p.items) c.deref-4.ensures.value h in
    let below = subst (λ (n : ℕ). is_set_below n b ≡ true) (sym alike) ys.below in
    ap as_bit (sym (same_is (length c.args.x.items) a b xs.below below) ∙ ap (λ (n : ℕ). none_of n (λ j. if has a j then not (has b j) else has b j)) (sym many))
    ∙ held v (λ j. if has a j then not (has b j) else has b j) fits (tells v (has a) (has b) (fits_before c.args.table.now.items c.none_in.new.table.items v c.none_in.ensures.grows fits) xs.bit ys.bit))
