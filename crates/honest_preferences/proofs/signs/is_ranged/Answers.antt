use Rattle.std.proofs.Common.{rules, ◌≡◌, sym, ◌∙◌}
use Rattle.dp_model.specs.declared.trees.Num as nums
use Rattle.honest_preferences.proofs.Numbers.{ranged_result, ranged_total}
use Rattle.honest_preferences.proofs.signs.is_ranged.Goals as goal

pub returns-in-Sum : goal.returns-in-Sum
returns-in-Sum c =
    let form : nums.out-Num c.args.e.now ≡ nums.Num-F.Sum c.in-Sum.field-0 c.in-Sum.field-1 = search (rules, nums.the_lemmas) in
    λ yes. ranged_total c.args.e.now c.in-Sum.field-0 c.in-Sum.field-1 form

pub returns-in-Op : goal.returns-in-Op
returns-in-Op c =
    let form : nums.out-Num c.args.e.now ≡ nums.Num-F.Num::Op c.in-Op.op c.in-Op.field-1 c.in-Op.field-2 = search (rules, nums.the_lemmas) in
    λ yes. ranged_result c.args.e.now c.in-Op.op c.in-Op.field-1 c.in-Op.field-2 form (sym c.is_tested.ensures ∙ yes)
