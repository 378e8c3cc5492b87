use Rattle.std.proofs.Common.{◌≡◌, ℕ, List, length, ℤ, ◌+ℤ◌, ◌*ℤ◌}
use Rattle.dp_model.specs.Evaluation.{has}
use Rattle.poly_terms.specs.Worth.{worth}
use Rattle.poly_terms.specs.Fits.{Fits}
use Rattle.poly_eval.specs.Shows.{AreBits}
use Rattle.poly_eval.specs.Bits.{AreChoices}
use Rattle.poly_eval.specs.Totals.{part_of, behind}
use Rattle.poly_eval.proofs.sums.+add_cells.Given as goal

abbrev pub decreases-add_cells : goal.decreases-add_cells
decreases-add_cells l = length l.rows.now

abbrev pub invariant-loop-member : goal.invariant-loop-member
invariant-loop-member l = (v : ℕ → ℤ) (set : List ℕ) (sets : List (List ℕ)) → Fits l.at.table.now v → AreBits v l.bits set → AreChoices v l.others sets
    → worth v l.sum.items ≡ worth v l.fn.sum.items +ℤ worth v l.factor *ℤ part_of l.member (has set) (behind l.at.cells.now l.place l.counts sets)
