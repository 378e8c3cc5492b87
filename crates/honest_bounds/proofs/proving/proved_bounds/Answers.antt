use Rattle.honest_states.proofs.Lists.{longer}
use Rattle.honest_bounds.proofs.Proved.{proved_more}
use Rattle.honest_bounds.proofs.proving.proved_bounds.Goals as goal

pub loop-place-preserved : goal.loop-place-preserved
loop-place-preserved c =
    let old = c.loop-place.proved.items in
    let new = c.push.new.self.items in
    let shown = c.in_ok-is_proved.field-0 in
    record {
      many = longer old new shown c.loop-place.place c.in_ok-push.ensures.items c.loop-place.invariant.many;
      proved = proved_more c.args.model.now old new shown c.loop-place.place c.in_ok-push.ensures.items c.loop-place.invariant.many c.loop-place.invariant.proved
          (λ yes e at. c.in_ok-is_proved.ensures yes (λ holds. c.in_ok-invariant.ensures holds) e at);
    }
