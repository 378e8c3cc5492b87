use Rattle.std.proofs.Common.{List, ℤ, inr, sym, subst}
use Rattle.announcer.specs.Ends.{AreCallersOf, AreLeft, CallerFacts, IsBegunOf}
use Rattle.pass_run.specs.Hearing.{costs_cried}
use Rattle.pass_run.proofs.Heard.{settled_by}
use Rattle.pass_run.proofs.announced.end_calls.Goals as goal

pub settle-requires-clause-callers : goal.settle-requires-clause-callers
settle-requires-clause-callers g c = subst (AreCallersOf c.args.queue) (sym c.of.ensures) c.requires.callers

pub returns-in-Ok-clause-looked : goal.returns-in-Ok-clause-looked
returns-in-Ok-clause-looked g c = λ last bytes faults told.
    settled_by c.args.queue c.args.callers.items c.args.crier c.args.minimize last bytes (g.S.Sink.taken c.look_last.new.out) faults (g.S.Sink.faults c.look_last.new.out) c.look_last.new.told c.args.end c.look_last.result c.list.result.now.items
    (subst (λ (costs : List ℤ). AreLeft c.args.queue.senders c.args.callers.items c.args.crier.taken costs) (sym c.list.ensures) (subst (λ (callers : List CallerFacts). AreLeft c.args.queue.senders callers c.args.crier.taken c.in-Ok.settled.left) c.of.ensures c.in-Ok.ensures.left))
    (c.look_last.ensures last (costs_cried c.args.crier.taken) bytes faults told)

pub returns-in-Ok-clause-begun : goal.returns-in-Ok-clause-begun
returns-in-Ok-clause-begun g c = subst (λ (callers : List CallerFacts). IsBegunOf callers c.args.crier.taken) c.of.ensures c.settle.ensures.begun

pub returns-in-Err-clause-looked : goal.returns-in-Err-clause-looked
returns-in-Err-clause-looked g c = λ last bytes faults told. inr (c.forget.ensures, told)

pub returns-in-Err-clause-begun : goal.returns-in-Err-clause-begun
returns-in-Err-clause-begun g c = subst (λ (callers : List CallerFacts). IsBegunOf callers c.args.crier.taken) c.of.ensures c.settle.ensures.begun
