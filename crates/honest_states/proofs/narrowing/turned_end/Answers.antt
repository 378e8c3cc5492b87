use Rattle.std.specs.Prelude.{int_le}
use Rattle.std.proofs.Common.{rules, ◌≡◌, ℤ, true, Option, sym, subst, w64, to_z, of_z}
use Rattle.std.proofs.lemmas.Int.{to_z-of_z}
use mir.Val.{SFits}
use Rattle.honest_states.specs.Modes.{is_to}
use Rattle.honest_states.proofs.Numbers.{turned_from}
use Rattle.honest_states.proofs.narrowing.turned_end.Goals as goal

pub returns-in-Some : goal.returns-in-Some
returns-in-Some c = λ x y e h.
    let f : SFits w64 c.in-Some.end = search rules in
    turned_from c.opposite_of.result (to_z w64 (of_z w64 c.in-Some.end)) x y c.opposite_of.ensures e
    (subst (λ (z : ℤ). int_le y z ≡ true) (sym (to_z-of_z w64 c.in-Some.end f)) (subst (λ (o : Option ℤ). is_to o y ≡ true) c.in-Some.is h))
