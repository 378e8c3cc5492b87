use Rattle.std.proofs.Common.{rules, ◌≡◌, ℤ, sym, subst, w64}
use Rattle.std.proofs.lemmas.Int.{to_z-of_z}
use mir.Val.{SFits}
use Rattle.dp_model.specs.declared.trees.Num as nums
use Rattle.honest_preferences.specs.Signs.{Falls}
use Rattle.honest_preferences.proofs.Binding.{if_some}
use Rattle.honest_preferences.proofs.Numbers.{falls_fixed, falls_param, falls_var}
use Rattle.honest_preferences.proofs.signs.falls_alone.Goals as goal

pub returns-in-Fixed : goal.returns-in-Fixed
returns-in-Fixed c =
    let form : nums.out-Num c.args.e.now ≡ nums.Num-F.Num::Fixed c.in-Fixed.n = search (rules, nums.the_lemmas) in
    let fits : SFits w64 c.in-Fixed.n = search rules in
    subst (λ (end : ℤ). Falls c.args.at.now.model.now c.args.at.now.kept.now c.args.at.now.ends.now c.args.e.now end) (sym (to_z-of_z w64 c.in-Fixed.n fits)) (falls_fixed c.args.at.now.model.now c.args.at.now.kept.now c.args.at.now.ends.now c.args.e.now c.in-Fixed.n form)

pub returns-in-Var : goal.returns-in-Var
returns-in-Var c =
    let form : nums.out-Num c.args.e.now ≡ nums.Num-F.Num::Var c.in-Var.v = search (rules, nums.the_lemmas) in
    if_some c.falls_held.result _ _ c.falls_held.ensures (λ end h. falls_var c.args.at.now.model.now c.args.at.now.kept.now c.args.at.now.ends.now c.args.e.now c.in-Var.v end form h.0 h.1)

pub returns-in-Param : goal.returns-in-Param
returns-in-Param c =
    let form : nums.out-Num c.args.e.now ≡ nums.Num-F.Param c.in-Param.field-0 = search (rules, nums.the_lemmas) in
    falls_param c.args.at.now.model.now c.args.at.now.kept.now c.args.at.now.ends.now c.args.e.now c.in-Param.field-0 form
