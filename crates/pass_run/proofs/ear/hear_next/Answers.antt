use Rattle.std.proofs.Common.{[], ◌∷◌, ◌++◌, Bool, ℤ, FitsSigned, refl, sym, subst, ◌∙◌, rules, arith, w64}
use Rattle.std.proofs.lemmas.Int.{to_z-of_z}
use Rattle.pass_run.specs.Hearing.{costs_cried}
use Rattle.announcing.specs.Telling.{IsTold}
use Rattle.pass_run.proofs.Hearing.{heard_more}
use Rattle.pass_run.proofs.ear.hear_next.Goals as goal

pub returns : goal.returns
returns g c = λ h hears.
    let old = c.args.ear.now in
    let took = c.in-Some.ensures.some in
    let fits : FitsSigned w64 c.in-Some.cost = search rules in
    let cried = costs_cried old.crier.now.taken in
    let before =
    subst (λ (b : Bool). IsTold b h.last cried h.before (g.S.Sink.taken old.out.now) h.faults (g.S.Sink.faults old.out.now) old.told) (sym hears.minimize_is) hears.told in
    let told = c.look.ensures.told h.last cried h.before h.faults before in
    heard_more g.S.Sink.taken g.S.Sink.faults h old _ took.0 hears refl took.2 took.3 refl refl refl (let less = c.if-ear-ge-MOST_HEARD.false in let more = c.look.ensures.count in omega (arith, less, more))
    (subst (λ (z : ℤ). IsTold old.minimize h.last (cried ++ z ∷ []) h.before (g.S.Sink.taken c.look.new.out) h.faults (g.S.Sink.faults c.look.new.out) c.look.new.told) (to_z-of_z w64 c.in-Some.cost fits ∙ sym took.1) told)
