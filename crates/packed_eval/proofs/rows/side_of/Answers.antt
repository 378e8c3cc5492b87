use Rattle.std.proofs.Common.{rules, ◌≡◌, ◌+◌, length}
use Rattle.dp_model.specs.declared.trees.Num as nums
use Rattle.dp_model.specs.declared.trees.NumOp.TheVariants.{Plus}
use Rattle.state_layout.specs.Packing.{state_in}
use Rattle.packed_eval.proofs.Parts.{operands_fit}
use Rattle.packed_eval.proofs.Sides.{cell_told, plus_told}
use Rattle.packed_eval.proofs.rows.side_of.Goals as goal

pub sum_of-requires-clause-right : goal.sum_of-requires-clause-right
sum_of-requires-clause-right c =
    let p : nums.out-Num c.args.e.now ≡ nums.Num-F.Num::Op Plus c.get.result.now c.get-in-Op-Plus-default-default.result.now = search (rules, nums.the_lemmas) in
    (c.requires.0, (operands_fit c.args.at.now.model.now (length c.args.at.now.args.now + 1) c.requires.0 c.args.e.now Plus c.get.result.now c.get-in-Op-Plus-default-default.result.now p c.requires.1).1)

pub returns-in_ok-row-in-Cell : goal.returns-in_ok-row-in-Cell
returns-in_ok-row-in-Cell c =
    let p : nums.out-Num c.args.e.now ≡ nums.Num-F.Num::Cell c.in-Cell.t c.in-Cell.ns = search (rules, nums.the_lemmas) in
    cell_told c.args.at.now.model.now (state_in c.args.at.now.words.now) c.args.at.now.args.now c.args.e.now c.in-Cell.t c.in-Cell.ns c.in_ok-row-in-Cell.row.now p c.in_ok-row-in-Cell.ensures

pub returns-in-Op-Plus-default-default : goal.returns-in-Op-Plus-default-default
returns-in-Op-Plus-default-default c =
    let p : nums.out-Num c.args.e.now ≡ nums.Num-F.Num::Op Plus c.get.result.now c.get-in-Op-Plus-default-default.result.now = search (rules, nums.the_lemmas) in
    plus_told c.args.at.now.model.now (state_in c.args.at.now.words.now) c.args.at.now.args.now c.sum_of.result c.args.e.now c.get.result.now c.get-in-Op-Plus-default-default.result.now p c.sum_of.ensures
