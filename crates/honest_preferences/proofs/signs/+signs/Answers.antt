use Rattle.std.proofs.Common.{rules, ◌≡◌, ℤ, true, sym, subst}
use Rattle.std.specs.Prelude.{◌≤ℤ◌, ◌+ℤ◌, ◌-ℤ◌, ◌*ℤ◌, pos, neg_ℤ}
use Rattle.std.specs.Int.{int_max, int_min}
use Rattle.dp_model.specs.Costs.{greatest}
use Rattle.dp_model.specs.declared.trees.NumOp.TheVariants as number_operations
use Rattle.dp_model.specs.declared.trees.Num as nums
use Rattle.honest_preferences.specs.Leaving.{leaves_cond, leaves_num}
use Rattle.honest_preferences.specs.Signs.{Falls, FallsBy, Rises, RisesBy}
use Rattle.honest_preferences.proofs.Binding.{if_some, read_three, read_two}
use Rattle.honest_preferences.proofs.Numbers.{falls_if, falls_least, falls_minus, falls_most, falls_op, falls_plus, falls_times, rises_if, rises_least, rises_minus, rises_most, rises_op, rises_plus, rises_times, rises_turned}
use Rattle.honest_preferences.proofs.signs.+signs.Goals as goal

pub falls-returns-in_ok-y-in-Op-Plus-default-default : goal.falls-returns-in_ok-y-in-Op-Plus-default-default
falls-returns-in_ok-y-in-Op-Plus-default-default t c =
    let form : nums.out-Num c.args.e.now ≡ nums.Num-F.Num::Op number_operations.Plus c.get.result.now c.get-in-Op-Plus-default-default.result.now = search (rules, nums.the_lemmas) in
    let left : Falls c.args.at.now.model.now c.args.at.now.kept.now c.args.at.now.ends.now c.get.result.now c.in_ok-x-in-Op-Plus-default-default.x = search rules in
    let right : Falls c.args.at.now.model.now c.args.at.now.kept.now c.args.at.now.ends.now c.get-in-Op-Plus-default-default.result.now c.in_ok-y-in-Op-Plus-default-default.y = search rules in
    if_some c.low_sum.result _ _ (read_two (λ (x y end : ℤ). (end ≡ x +ℤ y) × (neg_ℤ greatest ≤ℤ end)) c.low_sum.result c.in_ok-x-in-Op-Plus-default-default.x c.in_ok-y-in-Op-Plus-default-default.y (search rules) (search rules) c.low_sum.ensures) (λ end h. falls_op c.args.at.now.model.now c.args.at.now.kept.now c.args.at.now.ends.now c.args.e.now number_operations.Plus c.get.result.now c.get-in-Op-Plus-default-default.result.now end form (falls_plus c.args.at.now.model.now c.args.at.now.kept.now c.args.at.now.ends.now c.get.result.now c.get-in-Op-Plus-default-default.result.now c.in_ok-x-in-Op-Plus-default-default.x c.in_ok-y-in-Op-Plus-default-default.y end left right h.0 h.1))

pub falls-returns-in_ok-y-in-Op-Minus-default-default : goal.falls-returns-in_ok-y-in-Op-Minus-default-default
falls-returns-in_ok-y-in-Op-Minus-default-default t c =
    let form : nums.out-Num c.args.e.now ≡ nums.Num-F.Num::Op number_operations.Minus c.get-in-Op-Minus-default-default.result.now c.get-in-Op-Minus-default-default-2.result.now = search (rules, nums.the_lemmas) in
    let left : Falls c.args.at.now.model.now c.args.at.now.kept.now c.args.at.now.ends.now c.get-in-Op-Minus-default-default.result.now c.in_ok-x-in-Op-Minus-default-default.x = search rules in
    let right : Rises c.args.at.now.model.now c.args.at.now.kept.now c.args.at.now.ends.now c.get-in-Op-Minus-default-default-2.result.now c.in_ok-y-in-Op-Minus-default-default.y = search rules in
    if_some c.low_difference.result _ _ (read_two (λ (x y end : ℤ). (end ≡ x -ℤ y) × (neg_ℤ greatest ≤ℤ end)) c.low_difference.result c.in_ok-x-in-Op-Minus-default-default.x c.in_ok-y-in-Op-Minus-default-default.y (search rules) (search rules) c.low_difference.ensures) (λ end h. falls_op c.args.at.now.model.now c.args.at.now.kept.now c.args.at.now.ends.now c.args.e.now number_operations.Minus c.get-in-Op-Minus-default-default.result.now c.get-in-Op-Minus-default-default-2.result.now end form (falls_minus c.args.at.now.model.now c.args.at.now.kept.now c.args.at.now.ends.now c.get-in-Op-Minus-default-default.result.now c.get-in-Op-Minus-default-default-2.result.now c.in_ok-x-in-Op-Minus-default-default.x c.in_ok-y-in-Op-Minus-default-default.y end left right h.0 h.1))

pub falls-returns-in_ok-y-in-Op-Most-default-default : goal.falls-returns-in_ok-y-in-Op-Most-default-default
falls-returns-in_ok-y-in-Op-Most-default-default t c =
    let form : nums.out-Num c.args.e.now ≡ nums.Num-F.Num::Op number_operations.Most c.get-in-Op-Most-default-default.result.now c.get-in-Op-Most-default-default-2.result.now = search (rules, nums.the_lemmas) in
    let left : Falls c.args.at.now.model.now c.args.at.now.kept.now c.args.at.now.ends.now c.get-in-Op-Most-default-default.result.now c.in_ok-x-in-Op-Most-default-default.x = search rules in
    let right : Falls c.args.at.now.model.now c.args.at.now.kept.now c.args.at.now.ends.now c.get-in-Op-Most-default-default-2.result.now c.in_ok-y-in-Op-Most-default-default.y = search rules in
    if_some c.greater_end.result _ _ (read_two (λ (x y end : ℤ). end ≡ int_max x y) c.greater_end.result c.in_ok-x-in-Op-Most-default-default.x c.in_ok-y-in-Op-Most-default-default.y (search rules) (search rules) c.greater_end.ensures) (λ end h. falls_op c.args.at.now.model.now c.args.at.now.kept.now c.args.at.now.ends.now c.args.e.now number_operations.Most c.get-in-Op-Most-default-default.result.now c.get-in-Op-Most-default-default-2.result.now end form
    (subst (λ (z : ℤ). FallsBy c.args.at.now.model.now c.args.at.now.kept.now c.args.at.now.ends.now number_operations.Most c.get-in-Op-Most-default-default.result.now c.get-in-Op-Most-default-default-2.result.now z) (sym h) (falls_most c.args.at.now.model.now c.args.at.now.kept.now c.args.at.now.ends.now c.get-in-Op-Most-default-default.result.now c.get-in-Op-Most-default-default-2.result.now c.in_ok-x-in-Op-Most-default-default.x c.in_ok-y-in-Op-Most-default-default.y left right)))

pub falls-returns-in_ok-y-in-Op-Least-default-default : goal.falls-returns-in_ok-y-in-Op-Least-default-default
falls-returns-in_ok-y-in-Op-Least-default-default t c =
    let form : nums.out-Num c.args.e.now ≡ nums.Num-F.Num::Op number_operations.Least c.get-in-Op-Least-default-default.result.now c.get-in-Op-Least-default-default-2.result.now = search (rules, nums.the_lemmas) in
    let left : Falls c.args.at.now.model.now c.args.at.now.kept.now c.args.at.now.ends.now c.get-in-Op-Least-default-default.result.now c.in_ok-x-in-Op-Least-default-default.x = search rules in
    let right : Falls c.args.at.now.model.now c.args.at.now.kept.now c.args.at.now.ends.now c.get-in-Op-Least-default-default-2.result.now c.in_ok-y-in-Op-Least-default-default.y = search rules in
    if_some c.lesser_end.result _ _ (read_two (λ (x y end : ℤ). end ≡ int_min x y) c.lesser_end.result c.in_ok-x-in-Op-Least-default-default.x c.in_ok-y-in-Op-Least-default-default.y (search rules) (search rules) c.lesser_end.ensures) (λ end h. falls_op c.args.at.now.model.now c.args.at.now.kept.now c.args.at.now.ends.now c.args.e.now number_operations.Least c.get-in-Op-Least-default-default.result.now c.get-in-Op-Least-default-default-2.result.now end form
    (subst (λ (z : ℤ). FallsBy c.args.at.now.model.now c.args.at.now.kept.now c.args.at.now.ends.now number_operations.Least c.get-in-Op-Least-default-default.result.now c.get-in-Op-Least-default-default-2.result.now z) (sym h) (falls_least c.args.at.now.model.now c.args.at.now.kept.now c.args.at.now.ends.now c.get-in-Op-Least-default-default.result.now c.get-in-Op-Least-default-default-2.result.now c.in_ok-x-in-Op-Least-default-default.x c.in_ok-y-in-Op-Least-default-default.y left right)))

pub falls-returns-in_ok-y-in-If : goal.falls-returns-in_ok-y-in-If
falls-returns-in_ok-y-in-If t c =
    let form : nums.out-Num c.args.e.now ≡ nums.Num-F.Num::If c.get-in-If.result.now c.get-in-If-2.result.now c.get-in-If-3.result.now = search (rules, nums.the_lemmas) in
    let alike : leaves_cond c.args.at.now.kept.now c.get-in-If.result.now ≡ true = search rules in
    let left : Falls c.args.at.now.model.now c.args.at.now.kept.now c.args.at.now.ends.now c.get-in-If-2.result.now c.in_ok-x-in-If.x = search rules in
    let right : Falls c.args.at.now.model.now c.args.at.now.kept.now c.args.at.now.ends.now c.get-in-If-3.result.now c.in_ok-y-in-If.y = search rules in
    if_some c.lesser_end-in-If.result _ _ (read_two (λ (x y end : ℤ). end ≡ int_min x y) c.lesser_end-in-If.result c.in_ok-x-in-If.x c.in_ok-y-in-If.y (search rules) (search rules) c.lesser_end-in-If.ensures) (λ end h. subst (λ (z : ℤ). Falls c.args.at.now.model.now c.args.at.now.kept.now c.args.at.now.ends.now c.args.e.now z) (sym h) (falls_if c.args.at.now.model.now c.args.at.now.kept.now c.args.at.now.ends.now c.args.e.now c.get-in-If.result.now c.get-in-If-2.result.now c.get-in-If-3.result.now c.in_ok-x-in-If.x c.in_ok-y-in-If.y form alike left right))

pub rises-returns-in_ok-y-in-Op-Plus-default-default : goal.rises-returns-in_ok-y-in-Op-Plus-default-default
rises-returns-in_ok-y-in-Op-Plus-default-default t c =
    let form : nums.out-Num c.args.e.now ≡ nums.Num-F.Num::Op number_operations.Plus c.get.result.now c.get-in-Op-Plus-default-default.result.now = search (rules, nums.the_lemmas) in
    let left : Rises c.args.at.now.model.now c.args.at.now.kept.now c.args.at.now.ends.now c.get.result.now c.in_ok-x-in-Op-Plus-default-default.x = search rules in
    let right : Rises c.args.at.now.model.now c.args.at.now.kept.now c.args.at.now.ends.now c.get-in-Op-Plus-default-default.result.now c.in_ok-y-in-Op-Plus-default-default.y = search rules in
    if_some c.high_sum.result _ _ (read_two (λ (x y end : ℤ). (end ≡ x +ℤ y) × (end ≤ℤ greatest)) c.high_sum.result c.in_ok-x-in-Op-Plus-default-default.x c.in_ok-y-in-Op-Plus-default-default.y (search rules) (search rules) c.high_sum.ensures) (λ end h. rises_op c.args.at.now.model.now c.args.at.now.kept.now c.args.at.now.ends.now c.args.e.now number_operations.Plus c.get.result.now c.get-in-Op-Plus-default-default.result.now end form (rises_plus c.args.at.now.model.now c.args.at.now.kept.now c.args.at.now.ends.now c.get.result.now c.get-in-Op-Plus-default-default.result.now c.in_ok-x-in-Op-Plus-default-default.x c.in_ok-y-in-Op-Plus-default-default.y end left right h.0 h.1))

pub rises-returns-in_ok-y-in-Op-Minus-default-default : goal.rises-returns-in_ok-y-in-Op-Minus-default-default
rises-returns-in_ok-y-in-Op-Minus-default-default t c =
    let form : nums.out-Num c.args.e.now ≡ nums.Num-F.Num::Op number_operations.Minus c.get-in-Op-Minus-default-default.result.now c.get-in-Op-Minus-default-default-2.result.now = search (rules, nums.the_lemmas) in
    let left : Rises c.args.at.now.model.now c.args.at.now.kept.now c.args.at.now.ends.now c.get-in-Op-Minus-default-default.result.now c.in_ok-x-in-Op-Minus-default-default.x = search rules in
    let right : Falls c.args.at.now.model.now c.args.at.now.kept.now c.args.at.now.ends.now c.get-in-Op-Minus-default-default-2.result.now c.in_ok-y-in-Op-Minus-default-default.y = search rules in
    if_some c.high_difference.result _ _ (read_two (λ (x y end : ℤ). (end ≡ x -ℤ y) × (end ≤ℤ greatest)) c.high_difference.result c.in_ok-x-in-Op-Minus-default-default.x c.in_ok-y-in-Op-Minus-default-default.y (search rules) (search rules) c.high_difference.ensures) (λ end h. rises_op c.args.at.now.model.now c.args.at.now.kept.now c.args.at.now.ends.now c.args.e.now number_operations.Minus c.get-in-Op-Minus-default-default.result.now c.get-in-Op-Minus-default-default-2.result.now end form (rises_minus c.args.at.now.model.now c.args.at.now.kept.now c.args.at.now.ends.now c.get-in-Op-Minus-default-default.result.now c.get-in-Op-Minus-default-default-2.result.now c.in_ok-x-in-Op-Minus-default-default.x c.in_ok-y-in-Op-Minus-default-default.y end left right h.0 h.1))

pub rises-returns-in_ok-y-in-Op-Most-default-default : goal.rises-returns-in_ok-y-in-Op-Most-default-default
rises-returns-in_ok-y-in-Op-Most-default-default t c =
    let form : nums.out-Num c.args.e.now ≡ nums.Num-F.Num::Op number_operations.Most c.get-in-Op-Most-default-default.result.now c.get-in-Op-Most-default-default-2.result.now = search (rules, nums.the_lemmas) in
    let left : Rises c.args.at.now.model.now c.args.at.now.kept.now c.args.at.now.ends.now c.get-in-Op-Most-default-default.result.now c.in_ok-x-in-Op-Most-default-default.x = search rules in
    let right : Rises c.args.at.now.model.now c.args.at.now.kept.now c.args.at.now.ends.now c.get-in-Op-Most-default-default-2.result.now c.in_ok-y-in-Op-Most-default-default.y = search rules in
    if_some c.greater_end.result _ _ (read_two (λ (x y end : ℤ). end ≡ int_max x y) c.greater_end.result c.in_ok-x-in-Op-Most-default-default.x c.in_ok-y-in-Op-Most-default-default.y (search rules) (search rules) c.greater_end.ensures) (λ end h. rises_op c.args.at.now.model.now c.args.at.now.kept.now c.args.at.now.ends.now c.args.e.now number_operations.Most c.get-in-Op-Most-default-default.result.now c.get-in-Op-Most-default-default-2.result.now end form
    (subst (λ (z : ℤ). RisesBy c.args.at.now.model.now c.args.at.now.kept.now c.args.at.now.ends.now number_operations.Most c.get-in-Op-Most-default-default.result.now c.get-in-Op-Most-default-default-2.result.now z) (sym h) (rises_most c.args.at.now.model.now c.args.at.now.kept.now c.args.at.now.ends.now c.get-in-Op-Most-default-default.result.now c.get-in-Op-Most-default-default-2.result.now c.in_ok-x-in-Op-Most-default-default.x c.in_ok-y-in-Op-Most-default-default.y left right)))

pub rises-returns-in_ok-y-in-Op-Least-default-default : goal.rises-returns-in_ok-y-in-Op-Least-default-default
rises-returns-in_ok-y-in-Op-Least-default-default t c =
    let form : nums.out-Num c.args.e.now ≡ nums.Num-F.Num::Op number_operations.Least c.get-in-Op-Least-default-default.result.now c.get-in-Op-Least-default-default-2.result.now = search (rules, nums.the_lemmas) in
    let left : Rises c.args.at.now.model.now c.args.at.now.kept.now c.args.at.now.ends.now c.get-in-Op-Least-default-default.result.now c.in_ok-x-in-Op-Least-default-default.x = search rules in
    let right : Rises c.args.at.now.model.now c.args.at.now.kept.now c.args.at.now.ends.now c.get-in-Op-Least-default-default-2.result.now c.in_ok-y-in-Op-Least-default-default.y = search rules in
    if_some c.lesser_end.result _ _ (read_two (λ (x y end : ℤ). end ≡ int_min x y) c.lesser_end.result c.in_ok-x-in-Op-Least-default-default.x c.in_ok-y-in-Op-Least-default-default.y (search rules) (search rules) c.lesser_end.ensures) (λ end h. rises_op c.args.at.now.model.now c.args.at.now.kept.now c.args.at.now.ends.now c.args.e.now number_operations.Least c.get-in-Op-Least-default-default.result.now c.get-in-Op-Least-default-default-2.result.now end form
    (subst (λ (z : ℤ). RisesBy c.args.at.now.model.now c.args.at.now.kept.now c.args.at.now.ends.now number_operations.Least c.get-in-Op-Least-default-default.result.now c.get-in-Op-Least-default-default-2.result.now z) (sym h) (rises_least c.args.at.now.model.now c.args.at.now.kept.now c.args.at.now.ends.now c.get-in-Op-Least-default-default.result.now c.get-in-Op-Least-default-default-2.result.now c.in_ok-x-in-Op-Least-default-default.x c.in_ok-y-in-Op-Least-default-default.y left right)))

pub rises-returns-in_ok-y-in-If : goal.rises-returns-in_ok-y-in-If
rises-returns-in_ok-y-in-If t c =
    let form : nums.out-Num c.args.e.now ≡ nums.Num-F.Num::If c.get-in-If.result.now c.get-in-If-2.result.now c.get-in-If-3.result.now = search (rules, nums.the_lemmas) in
    let alike : leaves_cond c.args.at.now.kept.now c.get-in-If.result.now ≡ true = search rules in
    let left : Rises c.args.at.now.model.now c.args.at.now.kept.now c.args.at.now.ends.now c.get-in-If-2.result.now c.in_ok-x-in-If.x = search rules in
    let right : Rises c.args.at.now.model.now c.args.at.now.kept.now c.args.at.now.ends.now c.get-in-If-3.result.now c.in_ok-y-in-If.y = search rules in
    if_some c.greater_end-in-If.result _ _ (read_two (λ (x y end : ℤ). end ≡ int_max x y) c.greater_end-in-If.result c.in_ok-x-in-If.x c.in_ok-y-in-If.y (search rules) (search rules) c.greater_end-in-If.ensures) (λ end h. subst (λ (z : ℤ). Rises c.args.at.now.model.now c.args.at.now.kept.now c.args.at.now.ends.now c.args.e.now z) (sym h) (rises_if c.args.at.now.model.now c.args.at.now.kept.now c.args.at.now.ends.now c.args.e.now c.get-in-If.result.now c.get-in-If-2.result.now c.get-in-If-3.result.now c.in_ok-x-in-If.x c.in_ok-y-in-If.y form alike left right))

pub falls-returns-in_ok-y-in-Op-Times-default-default : goal.falls-returns-in_ok-y-in-Op-Times-default-default
falls-returns-in_ok-y-in-Op-Times-default-default t c =
    let a = c.get-in-Op-Times-default-default.result.now in
    let b = c.get-in-Op-Times-default-default-2.result.now in
    let x = c.in_ok-x-in-Op-Times-default-default.x in
    let y = c.in_ok-y-in-Op-Times-default-default.y in
    let form : nums.out-Num c.args.e.now ≡ nums.Num-F.Num::Op number_operations.Times a b = search (rules, nums.the_lemmas) in
    let left : Falls c.args.at.now.model.now c.args.at.now.kept.now c.args.at.now.ends.now a x = search rules in
    let right : Falls c.args.at.now.model.now c.args.at.now.kept.now c.args.at.now.ends.now b y = search rules in
    if_some c.low_product.result _ _ (read_two (λ (x y end : ℤ). (end ≡ pos 0) × (pos 0 ≤ℤ x) × (pos 0 ≤ℤ y)) c.low_product.result x y (search rules) (search rules) c.low_product.ensures)
    (λ end h. subst (λ (z : ℤ). Falls c.args.at.now.model.now c.args.at.now.kept.now c.args.at.now.ends.now c.args.e.now z) (sym h.0) (falls_op c.args.at.now.model.now c.args.at.now.kept.now c.args.at.now.ends.now c.args.e.now number_operations.Times a b (pos 0) form (falls_times c.args.at.now.model.now c.args.at.now.kept.now c.args.at.now.ends.now a b x y left right h.1 h.2)))

pub rises-returns-in_ok-end_b-in-Op-Times-default-default : goal.rises-returns-in_ok-end_b-in-Op-Times-default-default
rises-returns-in_ok-end_b-in-Op-Times-default-default t c =
    let a = c.get-a.result.now in
    let b = c.get-b.result.now in
    let form : nums.out-Num c.args.e.now ≡ nums.Num-F.Num::Op number_operations.Times a b = search (rules, nums.the_lemmas) in
    let same : leaves_num c.args.at.now.kept.now a ≡ true = search rules in
    let below : Falls c.args.at.now.model.now c.args.at.now.kept.now c.args.at.now.ends.now a c.in_ok-low_a-in-Op-Times-default-default.low_a = search rules in
    let above : Rises c.args.at.now.model.now c.args.at.now.kept.now c.args.at.now.ends.now a c.in_ok-high_a-in-Op-Times-default-default.high_a = search rules in
    let other : Rises c.args.at.now.model.now c.args.at.now.kept.now c.args.at.now.ends.now b c.in_ok-end_b-in-Op-Times-default-default.end_b = search rules in
    let product = c.high_product in
    if_some product.result _ _ (read_three (λ (x y z end : ℤ). (end ≡ y *ℤ z) × (end ≤ℤ greatest) × (pos 0 ≤ℤ x) × (pos 0 ≤ℤ z)) product.result c.in_ok-low_a-in-Op-Times-default-default.low_a c.in_ok-high_a-in-Op-Times-default-default.high_a c.in_ok-end_b-in-Op-Times-default-default.end_b (search rules) (search rules) (search rules) product.ensures)
    (λ end h. rises_op c.args.at.now.model.now c.args.at.now.kept.now c.args.at.now.ends.now c.args.e.now number_operations.Times a b end form (rises_times c.args.at.now.model.now c.args.at.now.kept.now c.args.at.now.ends.now a b c.in_ok-low_a-in-Op-Times-default-default.low_a c.in_ok-high_a-in-Op-Times-default-default.high_a c.in_ok-end_b-in-Op-Times-default-default.end_b end same below above other h.0 h.1 h.2 h.3))

pub rises-returns-in_ok-end_a-in-Op-Times-default-default : goal.rises-returns-in_ok-end_a-in-Op-Times-default-default
rises-returns-in_ok-end_a-in-Op-Times-default-default t c =
    let a = c.get-a.result.now in
    let b = c.get-b.result.now in
    let form : nums.out-Num c.args.e.now ≡ nums.Num-F.Num::Op number_operations.Times a b = search (rules, nums.the_lemmas) in
    let same : leaves_num c.args.at.now.kept.now b ≡ true = search rules in
    let below : Falls c.args.at.now.model.now c.args.at.now.kept.now c.args.at.now.ends.now b c.in_ok-low_b-in-Op-Times-default-default.low_b = search rules in
    let above : Rises c.args.at.now.model.now c.args.at.now.kept.now c.args.at.now.ends.now b c.in_ok-high_b-in-Op-Times-default-default.high_b = search rules in
    let other : Rises c.args.at.now.model.now c.args.at.now.kept.now c.args.at.now.ends.now a c.in_ok-end_a-in-Op-Times-default-default.end_a = search rules in
    let product = c.high_product-then-leaves_num-2 in
    if_some product.result _ _ (read_three (λ (x y z end : ℤ). (end ≡ y *ℤ z) × (end ≤ℤ greatest) × (pos 0 ≤ℤ x) × (pos 0 ≤ℤ z)) product.result c.in_ok-low_b-in-Op-Times-default-default.low_b c.in_ok-high_b-in-Op-Times-default-default.high_b c.in_ok-end_a-in-Op-Times-default-default.end_a (search rules) (search rules) (search rules) product.ensures)
    (λ end h. rises_op c.args.at.now.model.now c.args.at.now.kept.now c.args.at.now.ends.now c.args.e.now number_operations.Times a b end form (rises_turned c.args.at.now.model.now c.args.at.now.kept.now c.args.at.now.ends.now a b end (rises_times c.args.at.now.model.now c.args.at.now.kept.now c.args.at.now.ends.now b a c.in_ok-low_b-in-Op-Times-default-default.low_b c.in_ok-high_b-in-Op-Times-default-default.high_b c.in_ok-end_a-in-Op-Times-default-default.end_a end same below above other h.0 h.1 h.2 h.3)))
