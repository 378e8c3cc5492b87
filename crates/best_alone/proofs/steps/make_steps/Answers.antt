use Rattle.best_alone.proofs.Turns.{runs_out}
use Rattle.best_alone.proofs.steps.make_steps.Goals as goal

pub steps-init : goal.steps-init
steps-init g c = record { asked = c.requires; goes_on = λ p suited a. a }

pub step-requires : goal.step-requires
step-requires g c = c.steps.invariant.asked

pub steps-preserved : goal.steps-preserved
steps-preserved g c =
    let before = c.steps.invariant in
    let next = c.in_default.ensures.goes_on in
    let k = before.asked in
    record {
      asked = (k.0, k.1, next k.0 k.1 k.2);
      goes_on = λ p suited a. next p suited (before.goes_on p suited a);
    }

pub halt-requires : goal.halt-requires
halt-requires g c = c.steps.invariant.asked.2.on_board

pub returns-in-Err : goal.returns-in-Err
returns-in-Err g c = λ p suited a. c.in-Err.ensures.ends p suited (c.steps.invariant.goes_on p suited a)

pub returns : goal.returns
returns g c = λ p suited a.
    let b = c.steps.invariant.goes_on p suited a in
    runs_out p c.args.board.now c.args.budget c.steps.shard c.steps.seat b c.halt.new.seat c.halt.result (record { ended = c.halt.ensures.ended; on_board = c.halt.ensures.seat; view = c.halt.ensures.view })
