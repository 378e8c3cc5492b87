use Rattle.std.proofs.Common.{rules, ℤ, ◌*ℤ◌, ◌≤ℤ◌, sym, subst, w64, to_z, of_z}
use Rattle.std.proofs.lemmas.Int.{to_z-of_z}
use mir.Val.{SFits}
use Rattle.poly_terms.specs.Worth.{worth, term_worth}
use Rattle.poly_terms.proofs.Sums.{grown}
use Rattle.honest_states.proofs.Lists.{if_ok}
use Rattle.honest_states.proofs.absorbing.add_absorbed.Goals as goal

pub returns-in-Some : goal.returns-in-Some
returns-in-Some c =
    let f : SFits w64 c.args.term.now.coefficient = search rules in
    let times = to_z w64 (of_z w64 c.args.term.now.coefficient) in
    if_ok c.add_atom.result _ _ c.add_atom.ensures (λ added h yes v fits.
    grown (worth v c.add_atom.new.less.items) (worth v c.args.less.now.items) (times *ℤ v c.in-Some.atom) (term_worth v c.args.term.now) (h yes v)
    (subst (λ (z : ℤ). (z *ℤ v c.in-Some.atom) ≤ℤ term_worth v c.args.term.now) (sym (to_z-of_z w64 c.args.term.now.coefficient f)) (c.in-Some.ensures v fits)))
