use Rattle.std.proofs.Common.{ℕ, ℤ, sym, subst, w64}
use Rattle.std.specs.Prelude.{◌≤ℤ◌}
use Rattle.std.proofs.lemmas.Int.{to_z-of_z}
use Rattle.dp_model.specs.declared.parts.Effect.TheVariants as effects
use Rattle.honest_preferences.specs.Switches.{SetsUpTo}
use Rattle.honest_preferences.proofs.Switching.{sets_number}
use Rattle.honest_preferences.proofs.switches.sets_up_to.Goals as goal

pub returns-then-u-v : goal.returns-then-u-v
returns-then-u-v c = λ yes.
    let high = c.rises_to.ensures yes in
    let to = subst (λ (z : ℤ). high.0 ≤ℤ z) (to_z-of_z w64 c.args.limit c.ranges.limit) high.2 in
    let sets = sets_number c.args.at.now.model.now c.args.at.now.kept.now c.args.at.now.ends.now c.in-Number.u c.in-Number.e c.args.limit high.0 high.1 to in
    subst (SetsUpTo c.args.at.now.model.now c.args.at.now.kept.now c.args.at.now.ends.now c.args.v c.args.limit) (sym c.in-Number.is)
    (subst (λ (u : ℕ). SetsUpTo c.args.at.now.model.now c.args.at.now.kept.now c.args.at.now.ends.now u c.args.limit (effects.Number c.in-Number.u c.in-Number.e)) c.if-u-v.true sets)
