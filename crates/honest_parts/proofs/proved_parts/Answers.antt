use Rattle.std.proofs.Common.{◌≡◌, Bool, true, List, Some, length, slice_get, ap, sym, subst, ◌∙◌}
use Rattle.kept_model.specs.Honesty.{AreHonest}
use Rattle.honest_parts.specs.First.{AreFirst}
use Rattle.honest_parts.proofs.First.{numbers_kept, same_place}
use Rattle.honest_parts.proofs.Parts.{parts_honest}
use Rattle.honest_parts.proofs.proved_parts.Goals as goal

pub returns-clause-honest : goal.returns-clause-honest
returns-clause-honest c =
    let m = c.args.model.now in
    let bounds = c.in_ok-bounds.bounds.items in
    let preferences = c.in_ok-preferences.preferences.items in
    subst (λ (xs : List Bool). AreHonest m (record { bounds = xs; preferences = c.of-2.result })) (sym c.of.ensures)
    (subst (λ (xs : List Bool). AreHonest m (record { bounds = bounds; preferences = xs })) (sym c.of-2.ensures)
    (parts_honest m bounds preferences
    (λ i e keeps at. c.in_ok-proved.ensures.proved i e (subst (λ (xs : List Bool). slice_get xs i ≡ Some true) c.deref-2.ensures.value (c.in_ok-bounds.ensures.only i keeps i (same_place i))) at)
    c.in_ok-preferences.ensures.holds))

pub returns-clause-bounds : goal.returns-clause-bounds
returns-clause-bounds c = ap length c.of.ensures ∙ c.in_ok-bounds.ensures.each ∙ ap length c.deref-2.ensures.value ∙ c.in_ok-proved.ensures.each

pub returns-clause-numbers : goal.returns-clause-numbers
returns-clause-numbers c = numbers_kept c.of.result c.args.model.now.bounds (subst (λ (xs : List Bool). AreFirst xs) (sym c.of.ensures) c.in_ok-bounds.ensures.first)

pub returns-clause-preferences : goal.returns-clause-preferences
returns-clause-preferences c = ap length c.of-2.ensures ∙ c.in_ok-preferences.ensures.each

pub returns-clause-named : goal.returns-clause-named
returns-clause-named c = λ i v keeps at. c.in_ok-preferences.ensures.named i v (subst (λ (xs : List Bool). slice_get xs i ≡ Some true) c.of-2.ensures keeps) at
