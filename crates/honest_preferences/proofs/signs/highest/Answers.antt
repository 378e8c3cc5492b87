use Rattle.std.proofs.Common.{rules, ◌≡◌, ℤ, sym, subst, w64}
use Rattle.std.proofs.lemmas.Int.{to_z-of_z}
use mir.Val.{SFits}
use Rattle.dp_model.specs.declared.trees.Num as nums
use Rattle.honest_preferences.specs.Sides.{IsHigh}
use Rattle.honest_preferences.proofs.Numbers.{high_cell}
use Rattle.honest_preferences.proofs.signs.highest.Goals as goal

pub returns-in-Cell : goal.returns-in-Cell
returns-in-Cell c =
    let form : nums.out-Num c.args.e.now ≡ nums.Num-F.Num::Cell c.in-Cell.t c.in-Cell.field-1 = search (rules, nums.the_lemmas) in
    let fits : SFits w64 c.greatest.result = search rules in
    subst (λ (end : ℤ). IsHigh c.args.model.now c.args.e.now end) (sym (to_z-of_z w64 c.greatest.result fits)) (high_cell c.args.model.now c.args.e.now c.in-Cell.t c.in-Cell.field-1 c.numbers_in.result.now c.greatest.result form c.numbers_in.ensures c.greatest.ensures)

pub returns-then-is_ranged : goal.returns-then-is_ranged
returns-then-is_ranged c = λ s given z h. (c.is_ranged.ensures c.if-is_ranged.true c.args.model.now s given z h).1
