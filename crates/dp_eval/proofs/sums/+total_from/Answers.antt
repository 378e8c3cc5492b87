use Rattle.std.proofs.Common.{rules, ◌≡◌, ◌∙◌, refl, ◌-◌, get_or, take, drop, arith, length, FitsSigned}
use Rattle.std.specs.Int.{w128}
use Rattle.std.proofs.lemmas.Int.{ints, to_z-of_z}
use Rattle.dp_model.specs.Evaluation.{ways}
use Rattle.dp_eval.specs.Totals.{place_after, total_at}
use Rattle.dp_eval.proofs.Steps.{none_left, total_at-none, total_at-step}
use Rattle.dp_eval.proofs.sums.+total_from.Goals as goal

pub returns-in_default : goal.returns-in_default
returns-in_default t c = λ place h.
    let fits : FitsSigned w128 c.from.result = search rules in
    let same : c.from.result ≡ c.number_at.result = omega (arith, ints) in
    rw (to_z-of_z w128 c.from.result fits, none_left c.args.choices.now (omega arith), total_at-none c.args.cells.now place c.args.counts.now) (same ∙ c.number_at.ensures place h)

pub loop-member-preserved : goal.loop-member-preserved
loop-member-preserved t c = λ place h.
    let cells = c.args.cells.now in
    let counts = c.args.counts.now in
    let set = c.deref-member-items.result.now in
    let i = c.loop-member.member-index in
    let k = get_or set i 0 in
    let rest = ways (take (length c.args.choices.now - 1) (drop 1 c.args.choices.now)) in
    let step = total_at-step cells place counts rest set i k (omega arith) refl in
    let more : c.in_ok-total_from.field-0 ≡ total_at cells (place_after place counts k) (drop 1 counts) rest = rw (← c.after_first-rest.ensures) (c.in_ok-total_from.ensures (place_after place counts k) (c.place_after-next.ensures place h)) in
    let before = c.loop-member.invariant place h in
    let sum = c.in_ok-total.ensures in
    let fits : FitsSigned w128 c.in_ok-total.total = search rules in
    omega (arith, ints)
