use Rattle.std.proofs.Common.{rules, ◌≡◌}
use Rattle.dp_model.specs.declared.trees.Cond as conds
use Rattle.dp_model.specs.declared.trees.Num as nums
use Rattle.dp_model.specs.declared.trees.SetEx as sets
use Rattle.dp_model.specs.Evaluation.{range_of}
use Rattle.dp_eval.proofs.Forall.{all-answers}
use Rattle.dp_eval.proofs.Cells.{num_cell-answers, set_cell-answers, cond_cell-answers}
use Rattle.dp_eval.proofs.evaluate.+eval.Goals as goal

pub holds-returns-in_ok-members-in-All : goal.holds-returns-in_ok-members-in-All
holds-returns-in_ok-members-in-All t c =
    let p : conds.out-Cond c.args.e.now ≡ conds.Cond-F.All c.in-All.over c.get-in-All.result.now = search (rules, conds.the_lemmas) in
    let n : c.list.result.now ≡ range_of c.args.at.now.model.now c.args.at.now.s.now c.in-All.over = search rules in
    all-answers c.args.at.now.model.now c.args.at.now.s.now c.in-All.over c.args.e.now c.get-in-All.result.now c.args.at.now.args.now c.list.result.now c.all_hold.result p n c.all_hold.ensures

-- cells

pub number-returns-in-Cell : goal.number-returns-in-Cell
number-returns-in-Cell t c =
    let p : nums.out-Num c.args.e.now ≡ nums.Num-F.Num::Cell c.in-Cell.t c.in-Cell.ns = search (rules, nums.the_lemmas) in
    num_cell-answers c.args.at.now.model.now c.args.at.now.s.now c.in-Cell.t c.in-Cell.ns c.args.at.now.args.now c.args.e.now c.number_in_cell.result p c.number_in_cell.ensures

pub counted-returns-in-Cell-clause-members : goal.counted-returns-in-Cell-clause-members
counted-returns-in-Cell-clause-members t c =
    let p : sets.out-SetEx c.args.e.now ≡ sets.SetEx-F.SetEx::Cell c.in-Cell.t c.in-Cell.ns = search (rules, sets.the_lemmas) in
    set_cell-answers c.args.at.now.model.now c.args.at.now.s.now c.in-Cell.t c.in-Cell.ns c.args.at.now.args.now c.args.e.now c.set_in_cell.result p c.set_in_cell.ensures.members

pub holds-returns-in-Cell : goal.holds-returns-in-Cell
holds-returns-in-Cell t c =
    let p : conds.out-Cond c.args.e.now ≡ conds.Cond-F.Cond::Cell c.in-Cell.t c.in-Cell.ns = search (rules, conds.the_lemmas) in
    cond_cell-answers c.args.at.now.model.now c.args.at.now.s.now c.in-Cell.t c.in-Cell.ns c.args.at.now.args.now c.args.e.now c.truth_in_cell.result p c.truth_in_cell.ensures
