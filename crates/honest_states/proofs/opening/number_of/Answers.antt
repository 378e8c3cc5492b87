use Rattle.std.proofs.Common.{rules, ◌≡◌, refl, sym, ap, ◌∙◌, w64, to_z}
use Rattle.std.proofs.lemmas.Int.{to_z-of_z}
use mir.Val.{SFits}
use Rattle.poly_terms.specs.declared.table.Atom.TheVariants.{Number}
use Rattle.poly_terms.specs.Worth.{worth}
use Rattle.honest_states.proofs.Lists.{ok_some, on_ok}
use Rattle.honest_states.proofs.Opened.{opens_same, opens_put, number_meets, point_is}
use Rattle.honest_states.proofs.opening.number_of.Goals as goal

pub returns-in_ok-constant-in-Some-Some-clause-shows : goal.returns-in_ok-constant-in-Some-Some-clause-shows
returns-in_ok-constant-in-Some-Some-clause-shows c = λ x held.
    let low = c.in-Some-Some.low in
    let high = c.in-Some-Some.high in
    let f : SFits w64 low = search rules in
    let g : SFits w64 high = search rules in
    let same : low ≡ high = sym (to_z-of_z w64 low f) ∙ ap (to_z w64) c.if-low-high.true ∙ to_z-of_z w64 high g in
    opens_same c.args.table.now.items (λ v. x ≡ worth v c.in_ok-constant-in-Some-Some.field-0.items)
    (λ v. point_is c.args.span low high x c.in-Some-Some.is-0 c.in-Some-Some.is-1 same held ∙ sym (c.in_ok-constant-in-Some-Some.ensures v ∙ to_z-of_z w64 low f))

pub returns-in_default-clause-free : goal.returns-in_default-clause-free
returns-in_default-clause-free c = on_ok c.opened.result _ _ c.opened.ensures.free (λ f. f refl)

pub returns-in_default-clause-shows : goal.returns-in_default-clause-shows
returns-in_default-clause-shows c =
    ok_some c.opened.result _ _ c.opened.ensures.last (λ p h x held. opens_put c.args.table.now.items c.opened.new.table.items (Number c.args.span.low c.args.span.high) x p.items h.0 refl (number_meets c.args.span x held) h.1)
