use Rattle.std.proofs.Common.{arith}
use Rattle.pass_alone.specs.Alone.{Leaves, Tells}
use Rattle.pass_alone.proofs.Turns.{few_made, passed_up, tells_more, tells_on}
use Rattle.pass_alone.proofs.telling.step_and_look.Goals as goal

pub step-requires : goal.step-requires
step-requires g c = (c.requires.0, c.requires.1, c.requires.2)

pub look_some-requires : goal.look_some-requires
look_some-requires g c =
    let few = few_made c.requires.0 c.args.board.now c.args.budget c.args.shard.now c.args.seat.now c.requires.2.acts in
    let count = c.requires.3 in
    omega (arith, few, count)

pub returns-in_err-better-clause-ends : goal.returns-in_err-better-clause-ends
returns-in_err-better-clause-ends g c = λ p suited a last before faults t.
    let e = c.in_err-better.ensures.ends p suited a in
    passed_up c.from_residual.result c.in_err-better.field-0.0
    (λ end. (l : Leaves p c.args.board.now end c.step.new.shard c.step.new.seat) × Tells p c.args.minimize last before (g.S.Sink.taken c.args.out.now) faults (g.S.Sink.faults c.args.out.now) c.args.told.now l.stops.shard_record) c.from_residual.ensures.1
    (e.0, tells_on p c.args.minimize last before (g.S.Sink.taken c.args.out.now) faults (g.S.Sink.faults c.args.out.now) c.args.told.now a.acts.goes.shard_record e.0.stops.shard_record t e.1)

pub returns-clause-goes_on : goal.returns-clause-goes_on
returns-clause-goes_on g c = λ p suited a last before faults t.
    let b = c.in_ok-better.ensures.goes_on p suited a in (
      b.0,
      tells_more p c.args.minimize last before (g.S.Sink.taken c.args.out.now) faults (g.S.Sink.faults c.args.out.now) c.args.told.now a.acts.goes.shard_record b.0.acts.goes.shard_record t _ b.1 (g.S.Sink.taken c.look_some.new.out) (g.S.Sink.faults c.look_some.new.out) c.look_some.new.told
          (c.look_some.ensures.told last t.costs before faults t.looked) c.look_some.ensures.count (few_made p c.args.board.now c.args.budget c.step.new.shard c.step.new.seat b.0.acts),
    )
