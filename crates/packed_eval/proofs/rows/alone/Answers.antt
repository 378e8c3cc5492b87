use Rattle.std.proofs.Common.{rules, arith, ◌≡◌, ◌<◌, length, FitsSigned, w64}
use Rattle.std.proofs.lemmas.Int.{to_z-of_z}
use Rattle.dp_model.specs.declared.trees.Num as nums
use Rattle.state_layout.specs.Packing.{state_in}
use Rattle.packed_eval.proofs.Sides.{param_told}
use Rattle.packed_eval.proofs.rows.alone.Goals as goal

pub returns-then-p-at : goal.returns-then-p-at
returns-then-p-at c =
    let p : nums.out-Num c.args.e.now ≡ nums.Num-F.Param c.in-Param.p = search (rules, nums.the_lemmas) in
    let fits : FitsSigned w64 c.parameter.result = search rules in
    let before : c.in-Param.p < length c.args.at.now.args.now = omega arith in
    rw (to_z-of_z w64 c.parameter.result fits, c.parameter.ensures) (param_told c.args.at.now.model.now (state_in c.args.at.now.words.now) c.args.at.now.args.now c.args.e.now c.in-Param.p p before)
