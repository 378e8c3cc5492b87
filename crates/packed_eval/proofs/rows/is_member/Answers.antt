use Rattle.std.proofs.Common.{rules, ◌≡◌, length, eqb-true}
use Rattle.dp_model.specs.declared.trees.Num as nums
use Rattle.state_layout.specs.Packing.{state_in}
use Rattle.packed_eval.proofs.Sides.{member_told}
use Rattle.packed_eval.proofs.rows.is_member.Goals as goal

pub returns-in-Param : goal.returns-in-Param
returns-in-Param c = λ h.
    let p : nums.out-Num c.args.e.now ≡ nums.Num-F.Param c.in-Param.p = search (rules, nums.the_lemmas) in
    member_told c.args.at.now.model.now (state_in c.args.at.now.words.now) c.args.at.now.args.now c.args.e.now c.in-Param.p p (eqb-true c.in-Param.p (length c.args.at.now.args.now) h)
