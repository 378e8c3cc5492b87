use Rattle.std.proofs.Common.{Option, ℤ, inl, refl, subst, ◌++◌}
use Rattle.std.specs.Option.{option_to_list}
use Rattle.announcing.specs.Telling.{IsTold}
use Rattle.pass_over.proofs.Looked.{ends_looked}
use Rattle.pass_alone.proofs.announced.look_last.Goals as goal

pub returns : goal.returns
returns g c = λ p was now last costs before faults ended solved same told.
    ends_looked p was now c.args.end ended costs solved c.args.minimize last before (g.S.Sink.taken c.look_some.new.out) faults (g.S.Sink.faults c.look_some.new.out) c.look_some.new.told same _ refl refl refl (inl refl) refl
    (subst (λ (o : Option ℤ). IsTold c.args.minimize last (costs ++ option_to_list o) before (g.S.Sink.taken c.look_some.new.out) faults (g.S.Sink.faults c.look_some.new.out) c.look_some.new.told) c.best_cost.ensures (c.look_some.ensures.told last costs before faults told))
