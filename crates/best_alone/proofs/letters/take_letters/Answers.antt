use Rattle.best_alone.specs.Alone.{Leaves}
use Rattle.best_alone.proofs.Turns.{passed_up}
use Rattle.best_alone.proofs.letters.take_letters.Goals as goal

pub letters-init : goal.letters-init
letters-init g c = record { asked = c.requires; goes_on = λ p budget suited a. a }

pub letters-preserved : goal.letters-preserved
letters-preserved g c =
    let before = c.letters.invariant in
    let next = c.in_ok-take_next.ensures.goes_on in
    let k = before.asked in
    record {
      asked = (k.0, k.1, k.2, next k.0 k.1 k.2 k.3);
      goes_on = λ p budget suited a. next p budget suited (before.goes_on p budget suited a);
    }

pub returns-in_err-take_next-clause-ends : goal.returns-in_err-take_next-clause-ends
returns-in_err-take_next-clause-ends g c = λ p budget suited a.
    passed_up c.from_residual.result c.in_err-take_next.field-0.0 (λ end. Leaves p c.args.board.now end c.take_next.new.shard c.take_next.new.seat) c.from_residual.ensures.1
    (c.in_err-take_next.ensures.ends p budget suited (c.letters.invariant.goes_on p budget suited a))

pub returns-then-not-branch-clause-goes_on : goal.returns-then-not-branch-clause-goes_on
returns-then-not-branch-clause-goes_on g c = λ p budget suited a. c.in_ok-take_next.ensures.goes_on p budget suited (c.letters.invariant.goes_on p budget suited a)

pub returns-clause-goes_on : goal.returns-clause-goes_on
returns-clause-goes_on g c = λ p budget suited a. c.letters.invariant.goes_on p budget suited a
