use Rattle.std.proofs.Common.{ap, sym, ◌∙◌, suc, slice_get}
use Rattle.std.specs.Vec.Iter.{into_iter_items}
use Rattle.joined_seats.specs.Joined.{joined}
use Rattle.joined_seats.proofs.join_seats.Goals as goal

pub loop-other-preserved : goal.loop-other-preserved
loop-other-preserved c =
    let step = c.in-Some.ensures.steps.0 in
    record {
      seat = c.join.ensures.seat;
      view = ap (λ v. joined v (into_iter_items c.next.new.self)) c.join.ensures.view ∙ (sym (ap (λ xs. joined c.loop-other.seat.view xs) step) ∙ c.loop-other.invariant.view);
      rest = λ i s h. c.loop-other.invariant.rest (suc i) s (ap (λ xs. slice_get xs (suc i)) step ∙ h);
      can_next = tt;
      is_finite = tt;
    }
