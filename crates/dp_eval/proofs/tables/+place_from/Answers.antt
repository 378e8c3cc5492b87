use Rattle.std.proofs.Common.{rules, arith, ◌≡◌, get_or, pos, Ok}
use Rattle.dp_model.specs.Evaluation.{count_of, member_of}
use Rattle.dp_eval.proofs.Steps.{leads-next, rest-take}
use Rattle.dp_eval.proofs.tables.+place_from.Goals as goal

pub returns : goal.returns
returns t c = λ place h.
    let count = c.count_of-count.ensures in
    let member : member_of (count_of c.args.model.now (get_or c.args.objects.now 0 0)) (get_or c.args.numbers.now 0 (pos 0)) ≡ Ok c.in_ok-member_of.field-0 = search rules in
    let led = simp rest-take at (c.place_from.ensures _ (c.next_place-next.ensures place h)) in
    leads-next c.args.model.now place c.args.objects.now c.args.numbers.now c.in_ok-member_of.field-0 c.place_from.result (omega arith) (omega arith) member (rw (← count) led)
