use Rattle.std.proofs.Common.{[], ◌∷◌, ◌++◌, List, Option, ℤ, FitsSigned, sym, subst, rules, w64, append-nil}
use Rattle.std.proofs.lemmas.Int.{to_z-of_z}
use Rattle.std.specs.Option.{option_to_list}
use Rattle.announcing.specs.Telling.{IsTold}
use Rattle.announcing.proofs.telling.look_some.Goals as goal

pub returns-in-Some-clause-told : goal.returns-in-Some-clause-told
returns-in-Some-clause-told g c = λ last before bytes faults h.
    let fits : FitsSigned w64 c.in-Some.cost = search rules in
    let a = g.S.Sink.taken c.look.new.out in
    let f = g.S.Sink.faults c.look.new.out in
    subst (λ (o : Option ℤ). IsTold c.args.minimize last (before ++ option_to_list o) bytes a faults f c.look.new.told) (sym c.in-Some.is)
    (subst (λ (z : ℤ). IsTold c.args.minimize last (before ++ z ∷ []) bytes a faults f c.look.new.told) (to_z-of_z w64 c.in-Some.cost fits) (c.look.ensures.told last before bytes faults h))

pub returns-in-None-clause-told : goal.returns-in-None-clause-told
returns-in-None-clause-told g c = λ last before bytes faults h.
    let a = g.S.Sink.taken c.args.out.now in
    let f = g.S.Sink.faults c.args.out.now in
    subst (λ (o : Option ℤ). IsTold c.args.minimize last (before ++ option_to_list o) bytes a faults f c.args.told.now) (sym c.in-None.is)
    (subst (λ (xs : List ℤ). IsTold c.args.minimize last xs bytes a faults f c.args.told.now) (sym (append-nil before)) h)
