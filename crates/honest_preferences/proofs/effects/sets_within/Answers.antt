use Rattle.std.proofs.Common.{rules, FitsSigned, ℤ, subst, w64}
use Rattle.std.specs.Prelude.{◌≤ℤ◌}
use Rattle.std.proofs.lemmas.Int.{to_z-of_z}
use Rattle.honest_preferences.proofs.Moving.{greater_within, less_within}
use Rattle.honest_preferences.proofs.effects.sets_within.Goals as goal

pub returns-then-prefers_less : goal.returns-then-prefers_less
returns-then-prefers_less c = λ yes.
    let x = c.prefers_less.ensures c.if-prefers_less.true in
    let low = c.falls_to.ensures yes in
    let fits : FitsSigned w64 c.in-Some.end = search rules in
    let from = subst (λ (z : ℤ). z ≤ℤ low.0) (to_z-of_z w64 c.in-Some.end fits) low.2 in
    less_within c.args.at.now.model.now c.args.at.now.kept.now c.args.at.now.ends.now c.args.v c.args.e.now x.0 c.in-Some.end low.0 x.1 x.2 c.in-Some.ensures low.1 from

pub returns-then-prefers_greater : goal.returns-then-prefers_greater
returns-then-prefers_greater c = λ yes.
    let x = c.prefers_greater.ensures c.if-prefers_greater.true in
    let high = c.rises_to.ensures yes in
    let fits : FitsSigned w64 c.in-Some.end = search rules in
    let to = subst (λ (z : ℤ). high.0 ≤ℤ z) (to_z-of_z w64 c.in-Some.end fits) high.2 in
    greater_within c.args.at.now.model.now c.args.at.now.kept.now c.args.at.now.ends.now c.args.v c.args.e.now x.0 c.in-Some.end high.0 x.1 x.2 c.in-Some.ensures high.1 to
