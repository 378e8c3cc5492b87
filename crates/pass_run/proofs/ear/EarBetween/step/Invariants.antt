use Rattle.pass_run.specs.Hearing.{Heard, Hears}
use Rattle.pass_run.proofs.ear.EarBetween.step.Given as goal

-- whatever held of the ear holds of it
abbrev pub invariant-loop : goal.invariant-loop
invariant-loop g l = record {
  asked : (h : Heard) × Hears g.S.Sink.taken g.S.Sink.faults h l.self;
  stays : (h : Heard) → Hears g.S.Sink.taken g.S.Sink.faults h l.initial.self → Hears g.S.Sink.taken g.S.Sink.faults h l.self;
}
