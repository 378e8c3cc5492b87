use Rattle.pass_alone.specs.Alone.{EndsFrom}
use Rattle.pass_alone.proofs.Turns.{ends_more, found_more, passed_up}
use Rattle.pass_alone.proofs.steps.step.Goals as goal

pub take_letters-requires : goal.take_letters-requires
take_letters-requires g c =
    let k = c.requires in
    (k.0, c.args.budget, k.1, (c.in_ok-better.ensures.goes_on k.0 k.1 k.2).0)

pub returns-in_err-better-clause-ends : goal.returns-in_err-better-clause-ends
returns-in_err-better-clause-ends g c = λ p suited a.
    passed_up c.from_residual.result c.in_err-better.field-0.0 (λ end. EndsFrom p c.args.board.now a.acts.goes.shard_record end c.act.new.shard c.act.new.seat) c.from_residual.ensures.1
    (c.in_err-better.ensures.ends p suited a)

pub returns-in_err-take_letters-clause-ends : goal.returns-in_err-take_letters-clause-ends
returns-in_err-take_letters-clause-ends g c = λ p suited a.
    let b = c.in_ok-better.ensures.goes_on p suited a in
    let before = a.acts.goes.shard_record in
    passed_up c.from_residual-in_err-take_letters.result c.in_err-take_letters.field-0.0 (λ end. EndsFrom p c.args.board.now before end c.take_letters.new.shard c.take_letters.new.seat) c.from_residual-in_err-take_letters.ensures.1
    (ends_more p c.args.board.now before b.0.goes.shard_record _ c.in_err-take_letters.field-0.0 c.take_letters.new.shard c.take_letters.new.seat b.1 (c.in_err-take_letters.ensures.ends p c.args.budget suited b.0))

pub returns-clause-goes_on : goal.returns-clause-goes_on
returns-clause-goes_on g c = λ p suited a.
    let b = c.in_ok-better.ensures.goes_on p suited a in
    let x = c.in_ok-take_letters.ensures.goes_on p c.args.budget suited b.0 in
    (x.0, found_more p a.acts.goes.shard_record b.0.goes.shard_record x.0.acts.goes.shard_record _ b.1 x.1)
