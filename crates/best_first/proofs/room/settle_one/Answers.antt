use Rattle.std.proofs.Common.{sym, ◌∙◌, ◌≡◌, length, eqb-true, arith}
use Rattle.best_first.proofs.Leaving.{empty_list, none_left}
use Rattle.best_first.proofs.room.settle_one.Goals as goal

pub returns-in-Ok-clause-all : goal.returns-in-Ok-clause-all
returns-in-Ok-clause-all g c = λ yes.
    let list = c.list.result.now in
    let long = list.ok.0 in
    let zero = eqb-true list.len 0 (sym c.is_empty.ensures ∙ yes) in
    let none : length list.items ≡ 0 = omega (arith, long, zero) in
    none_left c.args.posters.items c.of.result c.args.taker.taken c.in-Ok.settled.left c.of.ensures (sym c.list.ensures ∙ empty_list list.items none) c.in-Ok.ensures.settled
