use Rattle.std.proofs.Common.{rules, ◌≡◌, FitsSigned, ℤ, subst, w64}
use Rattle.std.proofs.lemmas.Int.{to_z-of_z}
use Rattle.dp_model.specs.Evaluation.{number_in}
use Rattle.honest_preferences.specs.Effects.{IsAtEnd}
use Rattle.honest_preferences.specs.Signs.{IsOnSide}
use Rattle.honest_preferences.proofs.answering.is_within.Goals as goal

pub returns-in-Some : goal.returns-in-Some
returns-in-Some c = λ yes x end at here.
    let fits : FitsSigned w64 c.in-Some.end = search rules in
    let told = subst (IsAtEnd c.args.at.now.model.now c.args.at.now.model.now.target c.args.v) (to_z-of_z w64 c.in-Some.end fits) (c.is_at_end.ensures yes) in
    let there = c.in-Some.ensures in
    let same : c.in-Some.end ≡ end = cc (there, here) in
    subst (λ (z : ℤ). IsOnSide x.preference z (number_in c.args.at.now.model.now.target c.args.v)) same (told x at)
