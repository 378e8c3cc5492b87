use Rattle.std.proofs.Common.{refl}
use Rattle.pass_alone.proofs.Turns.{closes_in_vain, tells_on}
use Rattle.pass_alone.proofs.telling.make_steps_and_look.Goals as goal

pub steps-init : goal.steps-init
steps-init g c = record { asked = c.requires; goes_on = λ p suited a last before faults t. (a, t) }

pub step_and_look-requires : goal.step_and_look-requires
step_and_look-requires g c = let k = c.steps.invariant.asked in (k.0, k.1, k.2, k.6.few)

pub steps-preserved : goal.steps-preserved
steps-preserved g c =
    let before = c.steps.invariant in
    let next = c.in_default.ensures.goes_on in
    let k = before.asked in
    let x = next k.0 k.1 k.2 k.3 k.4 k.5 k.6 in
    record {
      asked = (k.0, k.1, x.0, k.3, k.4, k.5, x.1);
      goes_on = λ p suited a last bytes faults t. let b = before.goes_on p suited a last bytes faults t in next p suited b.0 last bytes faults b.1;
    }

pub halt-requires : goal.halt-requires
halt-requires g c = c.steps.invariant.asked.2.acts.on_board

pub returns-in-Err : goal.returns-in-Err
returns-in-Err g c = λ p suited a last before faults t. let b = c.steps.invariant.goes_on p suited a last before faults t in c.in-Err.ensures.ends p suited b.0 last before faults b.1

pub returns : goal.returns
returns g c = λ p suited a last before faults t.
    let b = c.steps.invariant.goes_on p suited a last before faults t in
    let here = b.0.acts in
    let e = closes_in_vain p c.args.board.now c.args.budget c.steps.shard c.steps.seat here c.steps.shard refl here.goes.stands.ends c.halt.new.seat c.halt.result (record { ended = c.halt.ensures.ended; on_board = c.halt.ensures.seat; view = c.halt.ensures.view }) in
    (e.0, tells_on p c.args.minimize last before (g.S.Sink.taken c.steps.out) faults (g.S.Sink.faults c.steps.out) c.steps.told here.goes.shard_record e.0.stops.shard_record b.1 e.1)
