use Rattle.std.proofs.Common.{refl}
use Rattle.best_alone.specs.Alone.{Leaves}
use Rattle.best_alone.proofs.Turns.{idles, passed_up}
use Rattle.best_alone.proofs.steps.step.Goals as goal

pub take_letters-requires : goal.take_letters-requires
take_letters-requires g c = let k = c.requires in (k.0, c.args.budget, k.1, k.2)

pub handle_next-requires : goal.handle_next-requires
handle_next-requires g c = let k = c.requires in (k.0, k.1, c.in_ok-take_letters.ensures.goes_on k.0 c.args.budget k.1 k.2)

pub returns-in_err-take_letters-clause-ends : goal.returns-in_err-take_letters-clause-ends
returns-in_err-take_letters-clause-ends g c = λ p suited a.
    passed_up c.from_residual.result c.in_err-take_letters.field-0.0 (λ end. Leaves p c.args.board.now end c.take_letters.new.shard c.take_letters.new.seat) c.from_residual.ensures.1
    (c.in_err-take_letters.ensures.ends p c.args.budget suited a)

pub returns-then-is_idle-clause-ends : goal.returns-then-is_idle-clause-ends
returns-then-is_idle-clause-ends g c = λ p suited a.
    let b = c.in_ok-take_letters.ensures.goes_on p c.args.budget suited a in
    idles p c.args.board.now c.args.budget c.take_letters.new.shard c.take_letters.new.seat b ((c.if-is_idle.ensures p b.shard_record b.stands).0 refl)

pub returns-clause-goes_on : goal.returns-clause-goes_on
returns-clause-goes_on g c = λ p suited a. c.handle_next.ensures.goes_on p suited (c.in_ok-take_letters.ensures.goes_on p c.args.budget suited a)

pub returns-clause-ends : goal.returns-clause-ends
returns-clause-ends g c = λ p suited a. c.handle_next.ensures.ends p suited (c.in_ok-take_letters.ensures.goes_on p c.args.budget suited a)
