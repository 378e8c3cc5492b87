use Rattle.std.proofs.Common.{◌≡◌, ℕ, ◌++◌, length, drop, ℤ, IsTrue}
use Rattle.dp_model.specs.Typing.{is_state}
use Rattle.dp_model.specs.declared.parts.PlainState.{PlainState}
use Rattle.poly_terms.specs.Fits.{Fits}
use Rattle.poly_eval.specs.Shows.{Extends, Shows}
use Rattle.poly_eval.specs.Parts.{AreFailures, AreRows, wide_nums}
use Rattle.poly_eval.proofs.evaluate.+evaluation.Given as goal

abbrev pub invariant-numbers-loop-n : goal.invariant-numbers-loop-n
invariant-numbers-loop-n l = record {
  grows : Extends l.fn.table.items l.table.items;
  left : (s : PlainState) (v : ℕ → ℤ) → IsTrue (is_state l.at.model.now.objects l.at.model.now.variables s) → Fits l.table.items v → Shows v l.at.symbols.now s
      → l.values.items ++ wide_nums l.at.model.now s (drop l.n-index l.n-items) l.at.given.now ≡ wide_nums l.at.model.now s l.n-items l.at.given.now;
}

abbrev pub invariant-failures-loop-k : goal.invariant-failures-loop-k
invariant-failures-loop-k l = record {
  many : length l.row.items ≡ l.k;
  grows : Extends l.fn.table.items l.table.items;
  value : AreFailures l.at.model.now l.table.items l.at.symbols.now l.at.given.now l.c l.guards.items l.row.items;
}

abbrev pub invariant-choices-loop-i : goal.invariant-choices-loop-i
invariant-choices-loop-i l = record {
  many : length l.rows.items ≡ l.i;
  grows : Extends l.fn.table.items l.table.items;
  value : AreRows l.at.model.now l.table.items l.at.symbols.now l.at.given.now l.terms l.rows.items;
}
