use Rattle.std.proofs.Common.{refl, arith, ◌∙◌}
use Rattle.honest_steps.proofs.Left.{move_by}
use Rattle.honest_steps.proofs.moving.moved_by.Goals as goal

pub returns : goal.returns
returns c =
    move_by c.args.model.now c.args.symbolic c.args.transition.now c.args.args.now c.symbols_after.new.table.items c.deref.result.now c.deref-3.result.now c.deref-2.result.now c.weight.result.now
    (record { table = c.weight_of.new.table; free = c.len-free.result; before = c.args.symbolic.symbols; after = c.in-Some.after; weight = c.in-Some-2.weight })
    (omega (arith, c.len-free.ensures, c.args.symbolic.table.ok.0)) refl c.deref.ensures.value c.deref-3.ensures.value (c.deref-2.ensures.value ∙ c.list-effects.ensures ∙ c.effects.ensures) c.weight.ensures
    c.in_ok-after.ensures.grows c.in_ok-weight.ensures.grows (rw c.in-Some.is at c.in_ok-after.ensures.value) (rw c.in-Some-2.is at c.in_ok-weight.ensures.value)
