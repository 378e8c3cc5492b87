use Rattle.std.proofs.Common.{◌≡◌, ℕ, ℤ, ◌*ℤ◌, drop}
use Rattle.dp_model.specs.declared.parts.PlainState.{PlainState}
use Rattle.dp_steps.specs.States.{are_members}
use Rattle.poly_terms.specs.Worth.{worth, as_bit}
use Rattle.poly_terms.specs.Fits.{Fits}
use Rattle.poly_eval.specs.Shows.{Shows}
use Rattle.honest_steps.proofs.bits.members_bit.Given as goal

-- what is left decides
abbrev pub invariant-loop-place : goal.invariant-loop-place
invariant-loop-place l =
    (s : PlainState) (v : ℕ → ℤ) → Fits l.table v → Shows v l.symbols s → worth v l.all.items *ℤ as_bit (are_members s (drop l.place l.params) (drop l.place l.args)) ≡ as_bit (are_members s l.params l.args)
