use Rattle.std.proofs.Common.{ℕ, ℤ, drop, IsTrue}
use Rattle.dp_model.specs.Typing.{is_state}
use Rattle.dp_model.specs.declared.parts.PlainState.{PlainState}
use Rattle.poly_terms.specs.Fits.{Fits}
use Rattle.poly_eval.specs.Shows.{Extends, Shows}
use Rattle.honest_steps.proofs.Changes.{Underway}
use Rattle.honest_steps.proofs.effects.symbols_after.Given as goal

abbrev pub invariant-loop-effect : goal.invariant-loop-effect
invariant-loop-effect l = record {
  grows : Extends l.fn.table.items l.table.items;
  value : (s : PlainState) (v : ℕ → ℤ) → IsTrue (is_state l.model.objects l.model.variables s) → Fits l.table.items v → Shows v l.before s → Underway l.model s l.given v l.after.items l.effects (drop l.effect-index l.effects);
}
