use Rattle.std.proofs.Common.{◌≡◌, ℕ, ℤ, ◌*ℤ◌, drop, IsTrue}
use Rattle.dp_model.specs.Typing.{is_state}
use Rattle.dp_model.specs.declared.parts.PlainState.{PlainState}
use Rattle.poly_terms.specs.Worth.{worth, as_bit}
use Rattle.poly_terms.specs.Fits.{Fits}
use Rattle.poly_eval.specs.Shows.{Extends, Shows}
use Rattle.wide_steps.specs.Steps.{all_hold}
use Rattle.honest_steps.proofs.bits.all_bit.Given as goal

-- what is left decides
abbrev pub invariant-loop-c : goal.invariant-loop-c
invariant-loop-c l = record {
  grows : Extends l.fn.table.items l.table.items;
  value : (s : PlainState) (v : ℕ → ℤ) → IsTrue (is_state l.model.objects l.model.variables s) → Fits l.table.items v → Shows v l.symbols s → worth v l.all.items *ℤ as_bit (all_hold l.model s l.given (drop l.c-index l.conditions)) ≡ as_bit (all_hold l.model s l.given l.conditions);
}
