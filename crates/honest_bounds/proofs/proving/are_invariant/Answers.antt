use Rattle.std.proofs.Common.{◌≡◌, true, subst}
use Rattle.dp_model.specs.declared.parts.PlainState.{PlainState}
use Rattle.honest_states.specs.Modes.{in_some}
use Rattle.honest_steps.proofs.Tables.{ok_one}
use Rattle.honest_bounds.proofs.proving.are_invariant.Goals as goal

pub returns-then-is_in_some : goal.returns-then-is_in_some
returns-then-is_in_some c = ok_one c.is_shown_of_all.result _ _ c.is_shown_of_all.ensures (λ shown h yes. record {
  first = subst (λ (s : PlainState). in_some c.args.modes.now s ≡ true) c.target.ensures (c.is_in_some.ensures c.if-is_in_some.true);
  kept = h yes;
})
