use Rattle.std.proofs.Common.{refl}
use Rattle.pass_alone.proofs.Turns.{closes_in_vain}
use Rattle.pass_alone.proofs.steps.make_steps.Goals as goal

pub steps-init : goal.steps-init
steps-init g c = record { asked = c.requires; goes_on = λ p suited a. a }

pub step-requires : goal.step-requires
step-requires g c = c.steps.invariant.asked

pub steps-preserved : goal.steps-preserved
steps-preserved g c =
    let before = c.steps.invariant in
    let next = c.in_default.ensures.goes_on in
    let k = before.asked in
    record {
      asked = (k.0, k.1, (next k.0 k.1 k.2).0);
      goes_on = λ p suited a. (next p suited (before.goes_on p suited a)).0;
    }

pub halt-requires : goal.halt-requires
halt-requires g c = c.steps.invariant.asked.2.acts.on_board

pub returns-in-Err : goal.returns-in-Err
returns-in-Err g c = λ p suited a. (c.in-Err.ensures.ends p suited (c.steps.invariant.goes_on p suited a)).0

pub returns : goal.returns
returns g c = λ p suited a.
    let b = (c.steps.invariant.goes_on p suited a).acts in
    (closes_in_vain p c.args.board.now c.args.budget c.steps.shard c.steps.seat b c.steps.shard refl b.goes.stands.ends c.halt.new.seat c.halt.result (record { ended = c.halt.ensures.ended; on_board = c.halt.ensures.seat; view = c.halt.ensures.view })).0
