use Rattle.std.proofs.Common.{rules, ◌≡◌, FitsSigned, w64}
use Rattle.std.proofs.lemmas.Int.{to_z-of_z}
use Rattle.dp_model.specs.declared.trees.Num as nums
use Rattle.state_layout.specs.Packing.{state_in}
use Rattle.packed_eval.proofs.Sides.{sum_told}
use Rattle.packed_eval.proofs.rows.sum_of.Goals as goal

pub returns-in_ok-row-in-Cell : goal.returns-in_ok-row-in-Cell
returns-in_ok-row-in-Cell c =
    let p : nums.out-Num c.args.b.now ≡ nums.Num-F.Num::Cell c.in-Cell.t c.in-Cell.ns = search (rules, nums.the_lemmas) in
    let fits : FitsSigned w64 c.in_ok-start-in-Cell.start = search rules in
    rw (to_z-of_z w64 c.in_ok-start-in-Cell.start fits) (sum_told c.args.at.now.model.now (state_in c.args.at.now.words.now) c.args.at.now.args.now c.args.a.now c.args.b.now c.in_ok-start-in-Cell.start c.in-Cell.t c.in-Cell.ns c.in_ok-row-in-Cell.row.now p c.in_ok-start-in-Cell.ensures c.in_ok-row-in-Cell.ensures)
