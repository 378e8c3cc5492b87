use Rattle.std.proofs.Common.{rules, ◌≡◌, ℕ, List, ℤ, pos, ◌+ℤ◌, ◌*ℤ◌}
use Rattle.dp_model.specs.Evaluation.{ways, table_counts}
use Rattle.poly_terms.specs.Worth.{worth}
use Rattle.poly_terms.specs.Fits.{Fits}
use Rattle.poly_eval.specs.Bits.{AreChoices}
use Rattle.poly_eval.specs.Totals.{total_at}
use Rattle.poly_eval.proofs.SumSteps.{sum_is}
use Rattle.poly_eval.proofs.sums.sum_of.Goals as goal

pub returns : goal.returns
returns c = λ v sets fits k.
    let one : (v : ℕ → ℤ) → worth v c.in_ok-one.one.items ≡ pos 1 = search rules in
    let added : (v : ℕ → ℤ) (sets : List (List ℕ)) → Fits c.args.table.now v → AreChoices v c.args.rows.items sets
    → worth v c.add_cells.new.sum.items ≡ pos 0 +ℤ worth v c.in_ok-one.one.items *ℤ total_at c.numbers_in.result.now 0 (table_counts c.args.model.now c.args.t) (ways sets) = search rules in
    sum_is c.args.model.now c.args.t c.numbers_in.result.now (ways sets) (worth v c.in_ok-one.one.items) (worth v c.add_cells.new.sum.items) c.numbers_in.ensures (one v) (added v sets fits k)
