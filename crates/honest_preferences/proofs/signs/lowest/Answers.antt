use Rattle.std.proofs.Common.{rules, ◌≡◌, ℤ, sym, subst, w64}
use Rattle.std.proofs.lemmas.Int.{to_z-of_z}
use mir.Val.{SFits}
use Rattle.dp_model.specs.declared.trees.Num as nums
use Rattle.honest_preferences.specs.Sides.{IsLow}
use Rattle.honest_preferences.proofs.Numbers.{low_cell, low_size, low_sum_of}
use Rattle.honest_preferences.proofs.signs.lowest.Goals as goal

pub returns-in-Cell : goal.returns-in-Cell
returns-in-Cell c =
    let form : nums.out-Num c.args.e.now ≡ nums.Num-F.Num::Cell c.in-Cell.t c.in-Cell.field-1 = search (rules, nums.the_lemmas) in
    let fits : SFits w64 c.least.result = search rules in
    subst (λ (end : ℤ). IsLow c.args.model.now c.args.e.now end) (sym (to_z-of_z w64 c.least.result fits)) (low_cell c.args.model.now c.args.e.now c.in-Cell.t c.in-Cell.field-1 c.numbers_in.result.now c.least.result form c.numbers_in.ensures c.least.ensures)

pub returns-in-Sum : goal.returns-in-Sum
returns-in-Sum c =
    let form : nums.out-Num c.args.e.now ≡ nums.Num-F.Sum c.in-Sum.t c.in-Sum.field-1 = search (rules, nums.the_lemmas) in
    let fits : SFits w64 c.low_total.result = search rules in
    subst (λ (end : ℤ). IsLow c.args.model.now c.args.e.now end) (sym (to_z-of_z w64 c.low_total.result fits)) (low_sum_of c.args.model.now c.args.e.now c.in-Sum.t c.in-Sum.field-1 c.numbers_in-in-Sum.result.now c.low_total.result form c.numbers_in-in-Sum.ensures c.low_total.ensures)

pub returns-in-Size : goal.returns-in-Size
returns-in-Size c =
    let form : nums.out-Num c.args.e.now ≡ nums.Num-F.Size c.in-Size.field-0 = search (rules, nums.the_lemmas) in
    low_size c.args.model.now c.args.e.now c.in-Size.field-0 form

pub returns-then-is_ranged : goal.returns-then-is_ranged
returns-then-is_ranged c = λ s given z h. (c.is_ranged.ensures c.if-is_ranged.true c.args.model.now s given z h).0
