use Rattle.std.proofs.Common.{◌≡◌, ℕ, List, Some, slice_get, sym, ap, subst, ◌∙◌}
use Rattle.spot_eval.specs.Moves.{is_forced}
use Rattle.honest_steps.proofs.Tables.{each_more}
use Rattle.honest_steps.proofs.entering.forced_steps.Goals as goal
use Rattle.honest_steps.proofs.entering.forced_steps.Goals.{then-is_forced+in_ok-push-in-Ok, else-is_forced}

pub loop-place-preserved : goal.loop-place-preserved
loop-place-preserved c =
    elim c.if-is_forced.branch [
      | then-is_forced+in_ok-push-in-Ok w ↦ (λ k g at.
          each_more (is_forced c.args.model.now) c.loop-place.numbers.items c.in-Ok.number c.loop-place.invariant (sym c.is_forced.ensures ∙ w.if-is_forced.true) k g
          (subst (λ (xs : List ℕ). slice_get xs k ≡ Some g) (ap (λ ns. ns.items) w.numbers-is ∙ w.in_ok-push-in-Ok.ensures.items) at))
      | else-is_forced w ↦ (λ k g at. c.loop-place.invariant k g (subst (λ (xs : List ℕ). slice_get xs k ≡ Some g) (ap (λ ns. ns.items) w.numbers-is) at))
    ]
