use Rattle.std.proofs.Common.{rules, ◌≡◌, ℕ, ℤ, pos, ◌+ℤ◌, ◌-ℤ◌, ◌*ℤ◌, ◌≤ℤ◌, List, ap, subst, ◌∙◌, w64, to_z, of_z}
use Rattle.std.proofs.lemmas.Int.{to_z-of_z}
use mir.Val.{SFits}
use Rattle.poly_terms.specs.declared.terms.Term.{Term}
use Rattle.poly_terms.specs.Worth.{worth}
use Rattle.honest_states.proofs.Lists.{if_ok}
use Rattle.honest_states.proofs.Numbers.{rest_room}
use Rattle.honest_states.proofs.narrowing.ends_at.Goals as goal

pub returns-in-Some-2 : goal.returns-in-Some-2
returns-in-Some-2 c =
    let room = c.in-Some.room in
    let f : SFits w64 room = search rules in
    let ft : SFits w64 c.args.times = search rules in
    let fe : SFits w64 c.args.end = search rules in
    let s : (v : ℕ → ℤ) → worth v c.in-Some-2.sum.items ≡ worth v c.args.rest.now +ℤ pos 1 *ℤ worth v c.deref.result.now = search rules in
    let most =
    c.in-Some.ensures ∙ ap (λ (z : ℤ). z *ℤ to_z w64 (of_z w64 c.args.end) +ℤ (z -ℤ pos 1)) (to_z-of_z w64 c.args.times ft)
    ∙ ap (λ (z : ℤ). c.args.times *ℤ z +ℤ (c.args.times -ℤ pos 1)) (to_z-of_z w64 c.args.end fe) in
    if_ok c.at_least_zero.result _ _ c.at_least_zero.ensures (λ shown h yes v fits.
    rest_room (worth v c.in-Some-2.sum.items) (worth v c.args.rest.now) (worth v c.deref.result.now) room (c.args.times *ℤ c.args.end +ℤ (c.args.times -ℤ pos 1))
    (subst (λ (p : List Term). pos 0 ≤ℤ worth v p) c.deref-in-Some-2.ensures.value (h yes v fits)) (s v)
    (ap (worth v) c.deref.ensures.value ∙ c.in_ok-constant.ensures v ∙ to_z-of_z w64 room f) most)
