use Rattle.std.proofs.Common.{◌≡◌, ◌∙◌, Ok, sym, refl}
use Rattle.dypdl_rules.specs.BaseCases.{bound_step}
use Rattle.dypdl_rules.proofs.Steps.{one_more}
use Rattle.dypdl_rules.proofs.bases.push_bounds.Goals as goal

pub loop-item-preserved : goal.loop-item-preserved
loop-item-preserved c = λ read h.
    let e : bound_step read c.args.declared.now.lists c.loop-item.bounds.items c.item-item.result ≡ Ok c.push.new.self.items = rw (c.in_ok-bound.ensures read h, c.in_ok-push.ensures.items) refl in
    sym (one_more (bound_step read c.args.declared.now.lists) c.loop-item.bounds.items c.push.new.self.items c.loop-item.item-index c.args.items.now c.item-item.result c.loop-item-test.true c.item-item.is e) ∙ c.loop-item.invariant read h
