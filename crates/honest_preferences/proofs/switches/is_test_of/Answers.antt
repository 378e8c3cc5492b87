use Rattle.std.proofs.Common.{ℕ, subst}
use Rattle.std.proofs.lemmas.Bool.{eqb-true}
use Rattle.honest_preferences.specs.Switches.{IsTest}
use Rattle.honest_preferences.proofs.switches.is_test_of.Goals as goal

pub returns-in-Some : goal.returns-in-Some
returns-in-Some c = λ yes.
    let same = eqb-true c.in-Some.test.variable c.args.v yes in
    (c.in-Some.test.number, λ m. subst (λ (k : ℕ). IsTest m c.args.c.now k c.in-Some.test.number) same (c.in-Some.ensures m))
