use Rattle.std.proofs.Common.{◌≡◌, ℕ, Some, slice_get, sym, subst}
use Rattle.wide_values.proofs.Wide.{law_of_wide}
use Rattle.honest_steps.proofs.Tables.{ok_one}
use Rattle.honest_steps.proofs.Law.{the_law}
use Rattle.honest_bounds.proofs.Proved.{bound_proved}
use Rattle.honest_bounds.proofs.proving.is_proved.Goals as goal

pub returns-in-Ok : goal.returns-in-Ok
returns-in-Ok c = ok_one c.is_shown_of_all.result _ _ c.is_shown_of_all.ensures (λ shown h yes invariant e at.
    bound_proved law_of_wide the_law c.args.model.now c.args.modes.now e (invariant c.if-not-invariant.false)
    (λ j mode g there lt. h yes j mode g there lt e (subst (λ (k : ℕ). slice_get c.args.model.now.bounds k ≡ Some e) (sym c.in-Ok.ensures.1) at)))
