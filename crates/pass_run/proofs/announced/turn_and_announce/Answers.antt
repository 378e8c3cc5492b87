use Rattle.std.proofs.Common.{false, rules, refl}
use Rattle.announcing.specs.declared.telling.Told.{Told}
use Rattle.pass_run.proofs.Heard.{heard_at, may_hear}
use Rattle.pass_run.proofs.announced.turn_and_announce.Goals as goal

pub turn_and_hear-requires-clause-ear : goal.turn_and_hear-requires-clause-ear
turn_and_hear-requires-clause-ear g c κs within = may_hear g.S.Sink.taken g.S.Sink.faults c.args.queue.now c.args.minimize c.args.last _ (refl, c.requires.crier, refl, refl)

pub returns-clause-heard : goal.returns-clause-heard
returns-clause-heard g c =
    let silent : Told = record { last = c.args.last; count = 0; failed = false } in
    heard_at g.S.Sink.taken g.S.Sink.faults c.args.queue.now c.args.minimize c.args.last (record { queue = c.args.queue; crier = _; out = _; told = silent; minimize = c.args.minimize }) c.turn_and_hear.result c.turn_and_hear.ensures.ear
    (refl, c.requires.crier, refl, refl) _ _ (search rules) (search rules)
