use Rattle.std.proofs.Common.{rules, ◌≡◌, ℕ, not, List, [], ◌∷◌, ◌++◌, length, drop, slice_get, Some, ◌+◌, ◌⊎◌, IsTrue, ℤ, pos, refl, sym, ap, ap₂, ◌∙◌, subst, arith, length-append}
use Rattle.std.proofs.lemmas.Option.{slice_get_read}
use Rattle.dp_model.specs.Typing.{is_state}
use Rattle.dp_model.specs.Evaluation.{cells_of, number_cell, place_in, table_counts, has, range_of}
use Rattle.dp_model.specs.declared.parts.PlainState.{PlainState}
use Rattle.poly_terms.specs.declared.table.Atom.{Atom}
use Rattle.poly_terms.specs.declared.terms.Term.{Term}
use Rattle.poly_terms.specs.Worth.{worth}
use Rattle.poly_terms.specs.Fits.{Fits}
use Rattle.wide_values.specs.Wide.{wide_operation, wide_members, wide_choices, wide_num, wide_cond, wide_set}
use Rattle.poly_eval.specs.Shows.{AreBits, Extends, IsSet, IsTruth, IsValue, Shows}
use Rattle.poly_eval.specs.Parts.{AreNumbers, AreRows, IsChoice, IsTruthUnless, IsValueUnless, choice_of, wide_args, wide_nums, AreFailures, IsFailure}
use Rattle.poly_eval.proofs.Steps.{extends_on, fits_before, if_ok, if_both}
use Rattle.poly_eval.proofs.Later.{value_later, value_unless_later, truth_later, rows_later}
use Rattle.poly_eval.proofs.Forms.{var-is, param-is, cell-is, sum-is, size-is, op-is, if-is, one-is, many-is, chosen_side, choices_are, each_more, nums_more, nums_end, same_set-is, other_set-is, subset-is, failures_more}
use Rattle.std.specs.List.{list_all}
use Rattle.std.specs.Str.{bytes_eq}
use Rattle.poly_eval.proofs.Arms.{truth_cell_arm, numbers_arm, sets_arm, is_in_arm, empty_arm, not_arm, and_arm, or_arm, choose_arm, all_arm, no_guard_arm, set_variable_arm, set_cell_arm, set_op_arm, set_not_arm, with_arm, without_arm, set_if_arm}
use Rattle.dp_model.specs.declared.trees.Arg as args
use Rattle.dp_model.specs.declared.trees.Num as nums
use Rattle.dp_model.specs.declared.trees.SetEx as sets
use Rattle.dp_model.specs.declared.trees.Cond as conds
use Rattle.poly_eval.proofs.evaluate.+evaluation.Goals as goal

pub number-returns-in-Var-clause-value : goal.number-returns-in-Var-clause-value
number-returns-in-Var-clause-value t c =
    let form : nums.out-Num c.args.e.now ≡ nums.Num-F.Num::Var c.in-Var.v = search (rules, nums.the_lemmas) in
    if_ok c.variable.result _ _ c.variable.ensures (λ p h s v state fits shows. var-is c.args.at.now.model.now s c.args.at.now.given.now c.args.e.now c.in-Var.v form ∙ h v s shows)

pub number-returns-in-Param-clause-value : goal.number-returns-in-Param-clause-value
number-returns-in-Param-clause-value t c =
    let form : nums.out-Num c.args.e.now ≡ nums.Num-F.Param c.in-Param.p = search (rules, nums.the_lemmas) in
    if_ok c.parameter.result _ _ c.parameter.ensures (λ p h s v state fits shows. param-is c.args.at.now.model.now s c.args.at.now.given.now c.args.e.now c.in-Param.p form ∙ sym (h v))

pub number-returns-in_ok-values-in-Cell-clause-value : goal.number-returns-in_ok-values-in-Cell-clause-value
number-returns-in_ok-values-in-Cell-clause-value t c =
    let form : nums.out-Num c.args.e.now ≡ nums.Num-F.Num::Cell c.in-Cell.t c.in-Cell.ns = search (rules, nums.the_lemmas) in
    let values : AreNumbers c.args.at.now.model.now c.numbers.new.table.items c.args.at.now.symbols.now c.args.at.now.given.now c.in-Cell.ns c.in_ok-values-in-Cell.values.items = search rules in
    if_ok c.number_cell.result _ _ c.number_cell.ensures (λ p h s v state fits shows.
    cell-is c.args.at.now.model.now s c.args.at.now.given.now c.args.e.now c.in-Cell.t c.in-Cell.ns form ∙ ap (λ (zs : List ℤ). number_cell (cells_of c.args.at.now.model.now c.in-Cell.t) (place_in c.args.at.now.model.now c.in-Cell.t (wide_members (table_counts c.args.at.now.model.now c.in-Cell.t) zs))) (values s v state fits shows) ∙ h v)

pub number-returns-in_ok-rows-in-Sum-clause-value : goal.number-returns-in_ok-rows-in-Sum-clause-value
number-returns-in_ok-rows-in-Sum-clause-value t c =
    let form : nums.out-Num c.args.e.now ≡ nums.Num-F.Sum c.in-Sum.t c.in-Sum.terms = search (rules, nums.the_lemmas) in
    let rows : AreRows c.args.at.now.model.now c.choices.new.table.items c.args.at.now.symbols.now c.args.at.now.given.now c.in-Sum.terms c.in_ok-rows-in-Sum.rows.items = search rules in
    let many : (length c.in_ok-rows-in-Sum.rows.items ≡ length c.in-Sum.terms) × (length c.in-Sum.terms ≡ length (table_counts c.args.at.now.model.now c.in-Sum.t)) = search rules in
    if_ok c.sum_of.result _ _ c.sum_of.ensures (λ p h s v state fits shows.
    sum-is c.args.at.now.model.now s c.args.at.now.given.now c.args.e.now c.in-Sum.t c.in-Sum.terms form
    ∙ h v (wide_choices (table_counts c.args.at.now.model.now c.in-Sum.t) (wide_args c.args.at.now.model.now s c.in-Sum.terms c.args.at.now.given.now)) (subst (λ (atoms : List Atom). Fits atoms v) (sym c.deref.ensures.value) fits)
    (choices_are c.args.at.now.model.now s c.args.at.now.given.now v (table_counts c.args.at.now.model.now c.in-Sum.t) c.in-Sum.terms c.in_ok-rows-in-Sum.rows.items many.0 many.1 (λ i e row is there. rows i e row is there s v state fits shows)))

pub number-returns-in_ok-row-in-Size-clause-value : goal.number-returns-in_ok-row-in-Size-clause-value
number-returns-in_ok-row-in-Size-clause-value t c =
    let form : nums.out-Num c.args.e.now ≡ nums.Num-F.Size c.get.result.now = search (rules, nums.the_lemmas) in
    let row : IsSet c.args.at.now.model.now c.members.new.table.items c.args.at.now.symbols.now c.args.at.now.given.now c.get.result.now c.in_ok-row-in-Size.row.items = search rules in
    if_ok c.size_of.result _ _ c.size_of.ensures (λ p h s v state fits shows. size-is c.args.at.now.model.now s c.args.at.now.given.now c.args.e.now c.get.result.now form ∙ h v (wide_set c.args.at.now.model.now s c.get.result.now c.args.at.now.given.now) (row s v state fits shows).bits)

pub number-returns-in_ok-y-in-Op-clause-value : goal.number-returns-in_ok-y-in-Op-clause-value
number-returns-in_ok-y-in-Op-clause-value t c =
    let form : nums.out-Num c.args.e.now ≡ nums.Num-F.Num::Op c.in-Op.op c.get-in-Op.result.now c.get-in-Op-2.result.now = search (rules, nums.the_lemmas) in
    let first : IsValue c.args.at.now.model.now c.number.new.table.items c.args.at.now.symbols.now c.args.at.now.given.now c.get-in-Op.result.now c.in_ok-x-in-Op.x.items = search rules in
    let second : IsValue c.args.at.now.model.now c.number-in-Op.new.table.items c.args.at.now.symbols.now c.args.at.now.given.now c.get-in-Op-2.result.now c.in_ok-y-in-Op.y.items = search rules in
    let grown : Extends c.number.new.table.items c.number-in-Op.new.table.items = search rules in
    let last : Extends c.number-in-Op.new.table.items c.operate.new.table.items = search rules in
    let left = value_later c.args.at.now.model.now c.number.new.table.items c.operate.new.table.items c.args.at.now.symbols.now c.args.at.now.given.now (extends_on c.number.new.table.items c.number-in-Op.new.table.items c.operate.new.table.items grown last) c.get-in-Op.result.now c.in_ok-x-in-Op.x.items first in
    let right = value_later c.args.at.now.model.now c.number-in-Op.new.table.items c.operate.new.table.items c.args.at.now.symbols.now c.args.at.now.given.now last c.get-in-Op-2.result.now c.in_ok-y-in-Op.y.items second in
    if_ok c.operate.result _ _ c.operate.ensures.value (λ p h s v state fits shows.
    op-is c.args.at.now.model.now s c.args.at.now.given.now c.args.e.now c.in-Op.op c.get-in-Op.result.now c.get-in-Op-2.result.now form ∙ ap₂ (wide_operation c.in-Op.op) (left s v state fits shows) (right s v state fits shows) ∙ sym (h v fits))

pub number-returns-in_ok-y-in-If-clause-value : goal.number-returns-in_ok-y-in-If-clause-value
number-returns-in_ok-y-in-If-clause-value t c =
    let form : nums.out-Num c.args.e.now ≡ nums.Num-F.Num::If c.get-in-If.result.now c.get-in-If-2.result.now c.get-in-If-3.result.now = search (rules, nums.the_lemmas) in
    let held_then : IsTruth c.args.at.now.model.now c.condition.new.table.items c.args.at.now.symbols.now c.args.at.now.given.now c.get-in-If.result.now c.in_ok-held-in-If.held.items = search rules in
    let zero : (v : ℕ → ℤ) → IsTrue c.is_zero.result → worth v c.in_ok-held-in-If.held.items ≡ pos 0 = search rules in
    let one : (v : ℕ → ℤ) → IsTrue c.is_one.result → worth v c.in_ok-held-in-If.held.items ≡ pos 1 = search rules in
    let left_then : IsValueUnless c.is_zero.result c.args.at.now.model.now c.number_unless.new.table.items c.args.at.now.symbols.now c.args.at.now.given.now c.get-in-If-2.result.now c.in_ok-x-in-If.x.items = search rules in
    let right : IsValueUnless c.is_one.result c.args.at.now.model.now c.number_unless-in-If.new.table.items c.args.at.now.symbols.now c.args.at.now.given.now c.get-in-If-3.result.now c.in_ok-y-in-If.y.items = search rules in
    let grown : Extends c.condition.new.table.items c.number_unless.new.table.items = search rules in
    let last : Extends c.number_unless.new.table.items c.number_unless-in-If.new.table.items = search rules in
    let held = truth_later c.args.at.now.model.now c.condition.new.table.items c.number_unless-in-If.new.table.items c.args.at.now.symbols.now c.args.at.now.given.now (extends_on c.condition.new.table.items c.number_unless.new.table.items c.number_unless-in-If.new.table.items grown last) c.get-in-If.result.now c.in_ok-held-in-If.held.items held_then in
    let left = value_unless_later c.args.at.now.model.now c.number_unless.new.table.items c.number_unless-in-If.new.table.items c.args.at.now.symbols.now c.args.at.now.given.now last c.is_zero.result c.get-in-If-2.result.now c.in_ok-x-in-If.x.items left_then in
    if_ok c.chosen_sum.result _ _ c.chosen_sum.ensures (λ p h s v state fits shows.
    if-is c.args.at.now.model.now s c.args.at.now.given.now c.args.e.now c.get-in-If.result.now c.get-in-If-2.result.now c.get-in-If-3.result.now form
    ∙ chosen_side (wide_cond c.args.at.now.model.now s c.get-in-If.result.now c.args.at.now.given.now) c.is_zero.result c.is_one.result (wide_num c.args.at.now.model.now s c.get-in-If-2.result.now c.args.at.now.given.now) (wide_num c.args.at.now.model.now s c.get-in-If-3.result.now c.args.at.now.given.now) (worth v c.in_ok-x-in-If.x.items) (worth v c.in_ok-y-in-If.y.items) (worth v c.in_ok-held-in-If.held.items) (worth v p.items)
    (held s v state fits shows) (zero v) (one v) (left s v state fits shows) (right s v state fits shows) (h v (wide_cond c.args.at.now.model.now s c.get-in-If.result.now c.args.at.now.given.now) (subst (λ (atoms : List Atom). Fits atoms v) (sym c.deref-in-If-3.ensures.value) fits) (held s v state fits shows)))

pub number-returns-in_ok-y-in-If-clause-grows : goal.number-returns-in_ok-y-in-If-clause-grows
number-returns-in_ok-y-in-If-clause-grows t c = extends_on c.args.table.now.items c.condition.new.table.items c.number_unless-in-If.new.table.items c.condition.ensures.grows (extends_on c.condition.new.table.items c.number_unless.new.table.items c.number_unless-in-If.new.table.items c.number_unless.ensures.grows c.number_unless-in-If.ensures.grows)

pub numbers-loop-n-preserved : goal.numbers-loop-n-preserved
numbers-loop-n-preserved t c = record {
  grows = λ k atom is. c.number.ensures.grows k atom (c.loop-n.invariant.grows k atom is);
  left = λ s v state fits shows.
      let value : IsValue c.args.at.now.model.now c.number.new.table.items c.args.at.now.symbols.now c.args.at.now.given.now c.n-item.result c.in_ok-p.p.items = search rules in
      let known : (v : ℕ → ℤ) → worth v c.in_ok-p.p.items ≡ c.in_ok-known_number.field-0 = search rules in
      let grown : Extends c.loop-n.table.items c.number.new.table.items = c.number.ensures.grows in
      let items : c.push.new.self.items ≡ c.loop-n.values.items ++ c.in_ok-known_number.field-0 ∷ [] = search rules in
      let all = nums_more c.args.at.now.model.now s c.args.at.now.given.now c.deref-n-items.result.now c.loop-n.n-index c.n-item.result c.in_ok-known_number.field-0 c.loop-n.values.items (wide_nums c.args.at.now.model.now s c.deref-n-items.result.now c.args.at.now.given.now) (omega arith) c.n-item.is
      (value s v state fits shows ∙ known v) (c.loop-n.invariant.left s v state (fits_before c.loop-n.table.items c.number.new.table.items v grown fits) shows) in
      subst (λ (zs : List ℤ). zs ++ wide_nums c.args.at.now.model.now s (drop (c.loop-n.n-index + 1) c.deref-n-items.result.now) c.args.at.now.given.now ≡ wide_nums c.args.at.now.model.now s c.deref-n-items.result.now c.args.at.now.given.now) (sym items) all;
}

pub numbers-returns-clause-value : goal.numbers-returns-clause-value
numbers-returns-clause-value t c = λ s v state fits shows.
    let same : c.deref-n-items.result.now ≡ c.args.ns.now = search rules in
    subst (λ (ns : List nums.Num). wide_nums c.args.at.now.model.now s ns c.args.at.now.given.now ≡ c.loop-n.values.items) same
    (nums_end c.args.at.now.model.now s c.args.at.now.given.now c.deref-n-items.result.now c.loop-n.n-index c.loop-n.values.items (wide_nums c.args.at.now.model.now s c.deref-n-items.result.now c.args.at.now.given.now) (omega arith) (c.loop-n.invariant.left s v state fits shows))

pub numbers-returns-in_err-p-clause-grows : goal.numbers-returns-in_err-p-clause-grows
numbers-returns-in_err-p-clause-grows t c = λ k atom is. c.number.ensures.grows k atom (c.loop-n.invariant.grows k atom is)

pub numbers-returns-in_err-known_number-clause-grows : goal.numbers-returns-in_err-known_number-clause-grows
numbers-returns-in_err-known_number-clause-grows t c = λ k atom is. c.number.ensures.grows k atom (c.loop-n.invariant.grows k atom is)

pub numbers-returns-in_err-push-clause-grows : goal.numbers-returns-in_err-push-clause-grows
numbers-returns-in_err-push-clause-grows t c = λ k atom is. c.number.ensures.grows k atom (c.loop-n.invariant.grows k atom is)

pub choice-returns-in_ok-x-in-One-clause-value : goal.choice-returns-in_ok-x-in-One-clause-value
choice-returns-in_ok-x-in-One-clause-value t c =
    let form : args.out-Arg c.args.e.now ≡ args.Arg-F.One c.in-One.n = search (rules, args.the_lemmas) in
    let value : IsValue c.args.at.now.model.now c.number.new.table.items c.args.at.now.symbols.now c.args.at.now.given.now c.in-One.n c.in_ok-x-in-One.x.items = search rules in
    if_ok c.single_set.result _ _ c.single_set.ensures (λ row h s v state fits shows. subst (λ (x : ℤ ⊎ List ℕ). AreBits v row.items (choice_of x)) (sym (one-is c.args.at.now.model.now s c.args.at.now.given.now c.args.e.now c.in-One.n form)) (h v (wide_num c.args.at.now.model.now s c.in-One.n c.args.at.now.given.now) (value s v state fits shows)))

pub choice-returns-in-Many-clause-value : goal.choice-returns-in-Many-clause-value
choice-returns-in-Many-clause-value t c =
    let form : args.out-Arg c.args.e.now ≡ args.Arg-F.Many c.in-Many.set = search (rules, args.the_lemmas) in
    if_ok c.members.result _ _ c.members.ensures.value (λ row h s v state fits shows. subst (λ (x : ℤ ⊎ List ℕ). AreBits v row.items (choice_of x)) (sym (many-is c.args.at.now.model.now s c.args.at.now.given.now c.args.e.now c.in-Many.set form)) (h s v state fits shows).bits)

pub choices-returns-in_err-row-clause-grows : goal.choices-returns-in_err-row-clause-grows
choices-returns-in_err-row-clause-grows t c = λ k atom is. c.choice.ensures.grows k atom (c.loop-i.invariant.grows k atom is)

pub choices-returns-in_err-push-clause-grows : goal.choices-returns-in_err-push-clause-grows
choices-returns-in_err-push-clause-grows t c = λ k atom is. c.choice.ensures.grows k atom (c.loop-i.invariant.grows k atom is)

pub choices-loop-i-preserved : goal.choices-loop-i-preserved
choices-loop-i-preserved t c = record {
  many = search rules;
  grows = λ k atom is. c.choice.ensures.grows k atom (c.loop-i.invariant.grows k atom is);
  value =
      let grown : Extends c.loop-i.table.items c.choice.new.table.items = c.choice.ensures.grows in
      let long : length c.loop-i.rows.items ≡ c.loop-i.i = search rules in
      let same : c.as_slice-items.result.now ≡ c.args.terms.now = search rules in
      let here : slice_get c.args.terms.now c.loop-i.i ≡ Some c.index-items-i.result =
      subst (λ (xs : List args.Arg). slice_get xs c.loop-i.i ≡ Some c.index-items-i.result) same (slice_get_read c.as_slice-items.result.now (length c.as_slice-items.result.now) c.loop-i.i c.index-items-i.result refl (omega arith) c.index-items-i.is) in
      let new : IsChoice c.args.at.now.model.now c.choice.new.table.items c.args.at.now.symbols.now c.args.at.now.given.now c.index-items-i.result c.in_ok-row.row.items = search rules in
      let items : c.push.new.self.items ≡ c.loop-i.rows.items ++ c.in_ok-row.row.items ∷ [] = search rules in
      subst (λ (rows : List (List (List Term))). AreRows c.args.at.now.model.now c.choice.new.table.items c.args.at.now.symbols.now c.args.at.now.given.now c.args.terms.now rows) (sym items)
      (each_more (λ (e : args.Arg) (row : List (List Term)). IsChoice c.args.at.now.model.now c.choice.new.table.items c.args.at.now.symbols.now c.args.at.now.given.now e row) c.args.terms.now c.loop-i.rows.items c.loop-i.i c.index-items-i.result c.in_ok-row.row.items long here new
      (rows_later c.args.at.now.model.now c.loop-i.table.items c.choice.new.table.items c.args.at.now.symbols.now c.args.at.now.given.now grown c.args.terms.now c.loop-i.rows.items c.loop-i.invariant.value));
}

pub condition-returns-in_ok-values-in-Cell-clause-value : goal.condition-returns-in_ok-values-in-Cell-clause-value
condition-returns-in_ok-values-in-Cell-clause-value t c =
    let form : conds.out-Cond c.args.e.now ≡ conds.Cond-F.Cond::Cell c.in-Cell.t c.in-Cell.ns = search (rules, conds.the_lemmas) in
    let values : AreNumbers c.args.at.now.model.now c.numbers.new.table.items c.args.at.now.symbols.now c.args.at.now.given.now c.in-Cell.ns c.in_ok-values-in-Cell.values.items = search rules in
    if_ok c.truth_cell.result _ _ c.truth_cell.ensures (λ p h. truth_cell_arm c.args.at.now.model.now c.args.at.now.symbols.now c.args.at.now.given.now c.args.e.now c.in-Cell.t c.in-Cell.ns c.numbers.new.table.items c.in_ok-values-in-Cell.values.items p.items form values h)

pub condition-returns-in_ok-y-in-Numbers-clause-value : goal.condition-returns-in_ok-y-in-Numbers-clause-value
condition-returns-in_ok-y-in-Numbers-clause-value t c =
    let form : conds.out-Cond c.args.e.now ≡ conds.Cond-F.Numbers c.in-Numbers.op c.in-Numbers.a c.in-Numbers.b = search (rules, conds.the_lemmas) in
    let more : Extends c.number.new.table.items c.number-in-Numbers.new.table.items = search rules in
    let last : Extends c.number-in-Numbers.new.table.items c.compared.new.table.items = search rules in
    let left : IsValue c.args.at.now.model.now c.number.new.table.items c.args.at.now.symbols.now c.args.at.now.given.now c.in-Numbers.a c.in_ok-x-in-Numbers.x.items = search rules in
    let right : IsValue c.args.at.now.model.now c.number-in-Numbers.new.table.items c.args.at.now.symbols.now c.args.at.now.given.now c.in-Numbers.b c.in_ok-y-in-Numbers.y.items = search rules in
    if_ok c.compared.result _ _ c.compared.ensures.value (λ p h. numbers_arm c.args.at.now.model.now c.args.at.now.symbols.now c.args.at.now.given.now c.args.e.now c.in-Numbers.op c.in-Numbers.a c.in-Numbers.b c.number.new.table.items c.number-in-Numbers.new.table.items c.compared.new.table.items c.in_ok-x-in-Numbers.x.items c.in_ok-y-in-Numbers.y.items p.items form more last left right h)

pub condition-returns-in_ok-y-in-SameSet-clause-value : goal.condition-returns-in_ok-y-in-SameSet-clause-value
condition-returns-in_ok-y-in-SameSet-clause-value t c =
    let form : conds.out-Cond c.args.e.now ≡ conds.Cond-F.SameSet c.in-SameSet.a c.in-SameSet.b = search (rules, conds.the_lemmas) in
    let more : Extends c.members.new.table.items c.members-in-SameSet.new.table.items = search rules in
    let last : Extends c.members-in-SameSet.new.table.items c.is_same.new.table.items = search rules in
    let left : IsSet c.args.at.now.model.now c.members.new.table.items c.args.at.now.symbols.now c.args.at.now.given.now c.in-SameSet.a c.in_ok-x-in-SameSet.x.items = search rules in
    let right : IsSet c.args.at.now.model.now c.members-in-SameSet.new.table.items c.args.at.now.symbols.now c.args.at.now.given.now c.in-SameSet.b c.in_ok-y-in-SameSet.y.items = search rules in
    if_ok c.is_same.result _ _ c.is_same.ensures.value (λ p h. sets_arm c.args.at.now.model.now c.args.at.now.symbols.now c.args.at.now.given.now c.args.e.now c.in-SameSet.a c.in-SameSet.b bytes_eq c.members.new.table.items c.members-in-SameSet.new.table.items c.is_same.new.table.items c.in_ok-x-in-SameSet.x.items c.in_ok-y-in-SameSet.y.items p.items (λ s. same_set-is c.args.at.now.model.now s c.args.at.now.given.now c.args.e.now c.in-SameSet.a c.in-SameSet.b form) more last left right h)

pub condition-returns-in_ok-y-in-OtherSet-clause-value : goal.condition-returns-in_ok-y-in-OtherSet-clause-value
condition-returns-in_ok-y-in-OtherSet-clause-value t c =
    let form : conds.out-Cond c.args.e.now ≡ conds.Cond-F.OtherSet c.in-OtherSet.a c.in-OtherSet.b = search (rules, conds.the_lemmas) in
    let more : Extends c.members-in-OtherSet.new.table.items c.members-in-OtherSet-2.new.table.items = search rules in
    let last : Extends c.members-in-OtherSet-2.new.table.items c.is_other.new.table.items = search rules in
    let left : IsSet c.args.at.now.model.now c.members-in-OtherSet.new.table.items c.args.at.now.symbols.now c.args.at.now.given.now c.in-OtherSet.a c.in_ok-x-in-OtherSet.x.items = search rules in
    let right : IsSet c.args.at.now.model.now c.members-in-OtherSet-2.new.table.items c.args.at.now.symbols.now c.args.at.now.given.now c.in-OtherSet.b c.in_ok-y-in-OtherSet.y.items = search rules in
    if_ok c.is_other.result _ _ c.is_other.ensures.value (λ p h. sets_arm c.args.at.now.model.now c.args.at.now.symbols.now c.args.at.now.given.now c.args.e.now c.in-OtherSet.a c.in-OtherSet.b (λ us ws. not (bytes_eq us ws)) c.members-in-OtherSet.new.table.items c.members-in-OtherSet-2.new.table.items c.is_other.new.table.items c.in_ok-x-in-OtherSet.x.items c.in_ok-y-in-OtherSet.y.items p.items (λ s. other_set-is c.args.at.now.model.now s c.args.at.now.given.now c.args.e.now c.in-OtherSet.a c.in-OtherSet.b form) more last left right h)

pub condition-returns-in_ok-y-in-Subset-clause-value : goal.condition-returns-in_ok-y-in-Subset-clause-value
condition-returns-in_ok-y-in-Subset-clause-value t c =
    let form : conds.out-Cond c.args.e.now ≡ conds.Cond-F.Subset c.in-Subset.a c.in-Subset.b = search (rules, conds.the_lemmas) in
    let more : Extends c.members-in-Subset.new.table.items c.members-in-Subset-2.new.table.items = search rules in
    let last : Extends c.members-in-Subset-2.new.table.items c.is_within.new.table.items = search rules in
    let left : IsSet c.args.at.now.model.now c.members-in-Subset.new.table.items c.args.at.now.symbols.now c.args.at.now.given.now c.in-Subset.a c.in_ok-x-in-Subset.x.items = search rules in
    let right : IsSet c.args.at.now.model.now c.members-in-Subset-2.new.table.items c.args.at.now.symbols.now c.args.at.now.given.now c.in-Subset.b c.in_ok-y-in-Subset.y.items = search rules in
    if_ok c.is_within.result _ _ c.is_within.ensures.value (λ p h. sets_arm c.args.at.now.model.now c.args.at.now.symbols.now c.args.at.now.given.now c.args.e.now c.in-Subset.a c.in-Subset.b (λ us ws. list_all (has ws) us) c.members-in-Subset.new.table.items c.members-in-Subset-2.new.table.items c.is_within.new.table.items c.in_ok-x-in-Subset.x.items c.in_ok-y-in-Subset.y.items p.items (λ s. subset-is c.args.at.now.model.now s c.args.at.now.given.now c.args.e.now c.in-Subset.a c.in-Subset.b form) more last left right h)

pub condition-returns-in_ok-row-in-IsIn-clause-value : goal.condition-returns-in_ok-row-in-IsIn-clause-value
condition-returns-in_ok-row-in-IsIn-clause-value t c =
    let form : conds.out-Cond c.args.e.now ≡ conds.Cond-F.IsIn c.in-IsIn.n c.in-IsIn.a = search (rules, conds.the_lemmas) in
    let more : Extends c.number-in-IsIn.new.table.items c.members-in-IsIn.new.table.items = search rules in
    let left : IsValue c.args.at.now.model.now c.number-in-IsIn.new.table.items c.args.at.now.symbols.now c.args.at.now.given.now c.in-IsIn.n c.in_ok-x-in-IsIn.x.items = search rules in
    let right : IsSet c.args.at.now.model.now c.members-in-IsIn.new.table.items c.args.at.now.symbols.now c.args.at.now.given.now c.in-IsIn.a c.in_ok-row-in-IsIn.row.items = search rules in
    if_ok c.is_in.result _ _ c.is_in.ensures (λ p h. is_in_arm c.args.at.now.model.now c.args.at.now.symbols.now c.args.at.now.given.now c.args.e.now c.in-IsIn.n c.in-IsIn.a c.number-in-IsIn.new.table.items c.members-in-IsIn.new.table.items c.in_ok-x-in-IsIn.x.items c.in_ok-row-in-IsIn.row.items p.items form more left right h)

pub condition-returns-in_ok-row-in-Empty-clause-value : goal.condition-returns-in_ok-row-in-Empty-clause-value
condition-returns-in_ok-row-in-Empty-clause-value t c =
    let form : conds.out-Cond c.args.e.now ≡ conds.Cond-F.Empty c.in-Empty.a = search (rules, conds.the_lemmas) in
    let more : Extends c.members-in-Empty.new.table.items c.is_empty.new.table.items = search rules in
    let inner : IsSet c.args.at.now.model.now c.members-in-Empty.new.table.items c.args.at.now.symbols.now c.args.at.now.given.now c.in-Empty.a c.in_ok-row-in-Empty.row.items = search rules in
    if_ok c.is_empty.result _ _ c.is_empty.ensures.value (λ p h. empty_arm c.args.at.now.model.now c.args.at.now.symbols.now c.args.at.now.given.now c.args.e.now c.in-Empty.a c.members-in-Empty.new.table.items c.is_empty.new.table.items c.in_ok-row-in-Empty.row.items p.items form more inner h)

pub condition-returns-in_ok-x-in-Not-clause-value : goal.condition-returns-in_ok-x-in-Not-clause-value
condition-returns-in_ok-x-in-Not-clause-value t c =
    let form : conds.out-Cond c.args.e.now ≡ conds.Cond-F.Cond::Not c.get.result.now = search (rules, conds.the_lemmas) in
    let inner : IsTruth c.args.at.now.model.now c.condition.new.table.items c.args.at.now.symbols.now c.args.at.now.given.now c.get.result.now c.in_ok-x-in-Not.x.items = search rules in
    if_ok c.negated.result _ _ c.negated.ensures (λ p h. not_arm c.args.at.now.model.now c.args.at.now.symbols.now c.args.at.now.given.now c.args.e.now c.get.result.now c.condition.new.table.items c.in_ok-x-in-Not.x.items c.deref.result.now p.items form inner c.deref.ensures.value h)

pub condition-returns-in_ok-y-in-And-clause-value : goal.condition-returns-in_ok-y-in-And-clause-value
condition-returns-in_ok-y-in-And-clause-value t c =
    let form : conds.out-Cond c.args.e.now ≡ conds.Cond-F.And c.get-in-And.result.now c.get-in-And-2.result.now = search (rules, conds.the_lemmas) in
    let more : Extends c.condition-in-And.new.table.items c.condition_unless.new.table.items = search rules in
    let last : Extends c.condition_unless.new.table.items c.both.new.table.items = search rules in
    let left : IsTruth c.args.at.now.model.now c.condition-in-And.new.table.items c.args.at.now.symbols.now c.args.at.now.given.now c.get-in-And.result.now c.in_ok-x-in-And.x.items = search rules in
    let right : IsTruthUnless c.is_zero.result c.args.at.now.model.now c.condition_unless.new.table.items c.args.at.now.symbols.now c.args.at.now.given.now c.get-in-And-2.result.now c.in_ok-y-in-And.y.items = search rules in
    if_ok c.both.result _ _ c.both.ensures.value (λ p h. and_arm c.args.at.now.model.now c.args.at.now.symbols.now c.args.at.now.given.now c.args.e.now c.get-in-And.result.now c.get-in-And-2.result.now c.is_zero.result c.condition-in-And.new.table.items c.condition_unless.new.table.items c.both.new.table.items c.in_ok-x-in-And.x.items c.deref-in-And.result.now c.in_ok-y-in-And.y.items p.items form more last left c.deref-in-And.ensures.value c.is_zero.ensures right h)

pub condition-returns-in_ok-y-in-Or-clause-value : goal.condition-returns-in_ok-y-in-Or-clause-value
condition-returns-in_ok-y-in-Or-clause-value t c =
    let form : conds.out-Cond c.args.e.now ≡ conds.Cond-F.Or c.get-in-Or.result.now c.get-in-Or-2.result.now = search (rules, conds.the_lemmas) in
    let more : Extends c.condition-in-Or.new.table.items c.condition_unless-in-Or.new.table.items = search rules in
    let last : Extends c.condition_unless-in-Or.new.table.items c.either.new.table.items = search rules in
    let left : IsTruth c.args.at.now.model.now c.condition-in-Or.new.table.items c.args.at.now.symbols.now c.args.at.now.given.now c.get-in-Or.result.now c.in_ok-x-in-Or.x.items = search rules in
    let right : IsTruthUnless c.is_one.result c.args.at.now.model.now c.condition_unless-in-Or.new.table.items c.args.at.now.symbols.now c.args.at.now.given.now c.get-in-Or-2.result.now c.in_ok-y-in-Or.y.items = search rules in
    if_ok c.either.result _ _ c.either.ensures.value (λ p h. or_arm c.args.at.now.model.now c.args.at.now.symbols.now c.args.at.now.given.now c.args.e.now c.get-in-Or.result.now c.get-in-Or-2.result.now c.is_one.result c.condition-in-Or.new.table.items c.condition_unless-in-Or.new.table.items c.either.new.table.items c.in_ok-x-in-Or.x.items c.deref-in-Or.result.now c.in_ok-y-in-Or.y.items p.items form more last left c.deref-in-Or.ensures.value c.is_one.ensures right h)

pub condition-returns-in_ok-y-in-If-clause-value : goal.condition-returns-in_ok-y-in-If-clause-value
condition-returns-in_ok-y-in-If-clause-value t c =
    let form : conds.out-Cond c.args.e.now ≡ conds.Cond-F.Cond::If c.get-in-If.result.now c.get-in-If-2.result.now c.get-in-If-3.result.now = search (rules, conds.the_lemmas) in
    let more : Extends c.condition-in-If.new.table.items c.condition_unless-in-If.new.table.items = search rules in
    let last : Extends c.condition_unless-in-If.new.table.items c.condition_unless-in-If-2.new.table.items = search rules in
    let held : IsTruth c.args.at.now.model.now c.condition-in-If.new.table.items c.args.at.now.symbols.now c.args.at.now.given.now c.get-in-If.result.now c.in_ok-held-in-If.held.items = search rules in
    let left : IsTruthUnless c.is_zero-in-If.result c.args.at.now.model.now c.condition_unless-in-If.new.table.items c.args.at.now.symbols.now c.args.at.now.given.now c.get-in-If-2.result.now c.in_ok-x-in-If.x.items = search rules in
    let right : IsTruthUnless c.is_one-in-If.result c.args.at.now.model.now c.condition_unless-in-If-2.new.table.items c.args.at.now.symbols.now c.args.at.now.given.now c.get-in-If-3.result.now c.in_ok-y-in-If.y.items = search rules in
    if_ok c.chosen_sum.result _ _ c.chosen_sum.ensures (λ p h. choose_arm c.args.at.now.model.now c.args.at.now.symbols.now c.args.at.now.given.now c.args.e.now c.get-in-If.result.now c.get-in-If-2.result.now c.get-in-If-3.result.now c.is_zero-in-If.result c.is_one-in-If.result c.condition-in-If.new.table.items c.condition_unless-in-If.new.table.items c.condition_unless-in-If-2.new.table.items c.deref-in-If-3.result.now c.in_ok-held-in-If.held.items c.deref-in-If.result.now c.deref-in-If-2.result.now c.in_ok-x-in-If.x.items c.in_ok-y-in-If.y.items p.items form more last held c.deref-in-If.ensures.value c.is_zero-in-If.ensures c.deref-in-If-2.ensures.value c.is_one-in-If.ensures left right c.deref-in-If-3.ensures.value h)

pub condition-returns-in_ok-row-in-All-clause-value : goal.condition-returns-in_ok-row-in-All-clause-value
condition-returns-in_ok-row-in-All-clause-value t c =
    let form : conds.out-Cond c.args.e.now ≡ conds.Cond-F.All c.in-All.over c.get-in-All.result.now = search (rules, conds.the_lemmas) in
    let last : Extends c.failures.new.table.items c.no_failure.new.table.items = search rules in
    let range : (v : ℕ → ℤ) (s : PlainState) → IsTrue (is_state c.args.at.now.model.now.objects c.args.at.now.model.now.variables s) → Shows v c.args.at.now.symbols.now s → AreBits v c.in_ok-guards-in-All.guards.items (range_of c.args.at.now.model.now s c.in-All.over) = search rules in
    let many : length c.in_ok-row-in-All.row.items ≡ length c.in_ok-guards-in-All.guards.items = search rules in
    let fails : AreFailures c.args.at.now.model.now c.failures.new.table.items c.args.at.now.symbols.now c.args.at.now.given.now c.get-in-All.result.now c.in_ok-guards-in-All.guards.items c.in_ok-row-in-All.row.items = search rules in
    if_ok c.no_failure.result _ _ c.no_failure.ensures.value (λ p h. all_arm c.args.at.now.model.now c.args.at.now.symbols.now c.args.at.now.given.now c.args.e.now c.in-All.over c.get-in-All.result.now c.failures.new.table.items c.no_failure.new.table.items c.in_ok-guards-in-All.guards.items c.in_ok-row-in-All.row.items p.items form last range many fails h)

pub failure-returns-then-is_zero-clause-value : goal.failure-returns-then-is_zero-clause-value
failure-returns-then-is_zero-clause-value t c =
    let nothing : (v : ℕ → ℤ) → worth v c.args.guard.now ≡ pos 0 = search rules in
    let zero : (v : ℕ → ℤ) → worth v c.in_ok-constant.field-0.items ≡ pos 0 = search rules in
    no_guard_arm c.args.at.now.model.now c.args.at.now.symbols.now c.args.at.now.given.now c.args.c.now c.args.table.now.items c.args.guard.now c.in_ok-constant.field-0.items nothing zero

pub members-returns-in-Var-clause-value : goal.members-returns-in-Var-clause-value
members-returns-in-Var-clause-value t c =
    let form : sets.out-SetEx c.args.e.now ≡ sets.SetEx-F.SetEx::Var c.in-Var.v = search (rules, sets.the_lemmas) in
    if_both c.set_variable.result _ _ _ c.set_variable.ensures.many c.set_variable.ensures.bits (λ row many bits. set_variable_arm c.args.at.now.model.now c.args.at.now.symbols.now c.args.at.now.given.now c.args.e.now c.in-Var.v c.args.table.now.items row.items form many bits)

pub members-returns-in_ok-values-in-Cell-clause-value : goal.members-returns-in_ok-values-in-Cell-clause-value
members-returns-in_ok-values-in-Cell-clause-value t c =
    let form : sets.out-SetEx c.args.e.now ≡ sets.SetEx-F.SetEx::Cell c.in-Cell.t c.in-Cell.ns = search (rules, sets.the_lemmas) in
    let values : AreNumbers c.args.at.now.model.now c.numbers.new.table.items c.args.at.now.symbols.now c.args.at.now.given.now c.in-Cell.ns c.in_ok-values-in-Cell.values.items = search rules in
    if_both c.set_cell.result _ _ _ c.set_cell.ensures.many c.set_cell.ensures.bits (λ row many bits. set_cell_arm c.args.at.now.model.now c.args.at.now.symbols.now c.args.at.now.given.now c.args.e.now c.in-Cell.t c.in-Cell.ns c.numbers.new.table.items c.in_ok-values-in-Cell.values.items row.items form values many bits)

pub members-returns-in_ok-y-in-Op-clause-value : goal.members-returns-in_ok-y-in-Op-clause-value
members-returns-in_ok-y-in-Op-clause-value t c =
    let form : sets.out-SetEx c.args.e.now ≡ sets.SetEx-F.SetEx::Op c.in-Op.op c.get.result.now c.get-in-Op.result.now = search (rules, sets.the_lemmas) in
    let more : Extends c.members.new.table.items c.members-in-Op.new.table.items = search rules in
    let left : IsSet c.args.at.now.model.now c.members.new.table.items c.args.at.now.symbols.now c.args.at.now.given.now c.get.result.now c.in_ok-x-in-Op.x.items = search rules in
    let right : IsSet c.args.at.now.model.now c.members-in-Op.new.table.items c.args.at.now.symbols.now c.args.at.now.given.now c.get-in-Op.result.now c.in_ok-y-in-Op.y.items = search rules in
    if_both c.operated_set.result _ _ _ c.operated_set.ensures.many c.operated_set.ensures.bits (λ row many bits. set_op_arm c.args.at.now.model.now c.args.at.now.symbols.now c.args.at.now.given.now c.args.e.now c.in-Op.op c.get.result.now c.get-in-Op.result.now c.members.new.table.items c.members-in-Op.new.table.items c.deref.result.now c.in_ok-x-in-Op.x.items c.in_ok-y-in-Op.y.items row.items form more left right c.deref.ensures.value many bits)

pub members-returns-in_ok-x-in-Not-clause-value : goal.members-returns-in_ok-x-in-Not-clause-value
members-returns-in_ok-x-in-Not-clause-value t c =
    let form : sets.out-SetEx c.args.e.now ≡ sets.SetEx-F.SetEx::Not c.get-in-Not.result.now = search (rules, sets.the_lemmas) in
    let inner : IsSet c.args.at.now.model.now c.members-in-Not.new.table.items c.args.at.now.symbols.now c.args.at.now.given.now c.get-in-Not.result.now c.in_ok-x-in-Not.x.items = search rules in
    if_both c.complement.result _ _ _ c.complement.ensures.many c.complement.ensures.bits (λ row many bits. set_not_arm c.args.at.now.model.now c.args.at.now.symbols.now c.args.at.now.given.now c.args.e.now c.get-in-Not.result.now c.members-in-Not.new.table.items c.in_ok-x-in-Not.x.items row.items form inner many bits)

pub members-returns-in_ok-y-in-With-clause-value : goal.members-returns-in_ok-y-in-With-clause-value
members-returns-in_ok-y-in-With-clause-value t c =
    let form : sets.out-SetEx c.args.e.now ≡ sets.SetEx-F.With c.get-in-With.result.now c.get-in-With-2.result.now = search (rules, sets.the_lemmas) in
    let more : Extends c.number.new.table.items c.members-in-With.new.table.items = search rules in
    let left : IsValue c.args.at.now.model.now c.number.new.table.items c.args.at.now.symbols.now c.args.at.now.given.now c.get-in-With.result.now c.in_ok-x-in-With.x.items = search rules in
    let right : IsSet c.args.at.now.model.now c.members-in-With.new.table.items c.args.at.now.symbols.now c.args.at.now.given.now c.get-in-With-2.result.now c.in_ok-y-in-With.y.items = search rules in
    if_both c.with_member.result _ _ _ c.with_member.ensures.many c.with_member.ensures.bits (λ row many bits. with_arm c.args.at.now.model.now c.args.at.now.symbols.now c.args.at.now.given.now c.args.e.now c.get-in-With.result.now c.get-in-With-2.result.now c.number.new.table.items c.members-in-With.new.table.items c.deref-in-With.result.now c.in_ok-x-in-With.x.items c.in_ok-y-in-With.y.items row.items form more left right c.deref-in-With.ensures.value many bits)

pub members-returns-in_ok-y-in-Without-clause-value : goal.members-returns-in_ok-y-in-Without-clause-value
members-returns-in_ok-y-in-Without-clause-value t c =
    let form : sets.out-SetEx c.args.e.now ≡ sets.SetEx-F.Without c.get-in-Without.result.now c.get-in-Without-2.result.now = search (rules, sets.the_lemmas) in
    let more : Extends c.number-in-Without.new.table.items c.members-in-Without.new.table.items = search rules in
    let left : IsValue c.args.at.now.model.now c.number-in-Without.new.table.items c.args.at.now.symbols.now c.args.at.now.given.now c.get-in-Without.result.now c.in_ok-x-in-Without.x.items = search rules in
    let right : IsSet c.args.at.now.model.now c.members-in-Without.new.table.items c.args.at.now.symbols.now c.args.at.now.given.now c.get-in-Without-2.result.now c.in_ok-y-in-Without.y.items = search rules in
    if_both c.without_member.result _ _ _ c.without_member.ensures.many c.without_member.ensures.bits (λ row many bits. without_arm c.args.at.now.model.now c.args.at.now.symbols.now c.args.at.now.given.now c.args.e.now c.get-in-Without.result.now c.get-in-Without-2.result.now c.number-in-Without.new.table.items c.members-in-Without.new.table.items c.deref-in-Without.result.now c.in_ok-x-in-Without.x.items c.in_ok-y-in-Without.y.items row.items form more left right c.deref-in-Without.ensures.value many bits)

pub members-returns-in_ok-y-in-If-clause-value : goal.members-returns-in_ok-y-in-If-clause-value
members-returns-in_ok-y-in-If-clause-value t c =
    let form : sets.out-SetEx c.args.e.now ≡ sets.SetEx-F.SetEx::If c.get-in-If.result.now c.get-in-If-2.result.now c.get-in-If-3.result.now = search (rules, sets.the_lemmas) in
    let more : Extends c.condition.new.table.items c.members-in-If.new.table.items = search rules in
    let last : Extends c.members-in-If.new.table.items c.members-in-If-2.new.table.items = search rules in
    let held : IsTruth c.args.at.now.model.now c.condition.new.table.items c.args.at.now.symbols.now c.args.at.now.given.now c.get-in-If.result.now c.in_ok-held-in-If.held.items = search rules in
    let left : IsSet c.args.at.now.model.now c.members-in-If.new.table.items c.args.at.now.symbols.now c.args.at.now.given.now c.get-in-If-2.result.now c.in_ok-x-in-If.x.items = search rules in
    let right : IsSet c.args.at.now.model.now c.members-in-If-2.new.table.items c.args.at.now.symbols.now c.args.at.now.given.now c.get-in-If-3.result.now c.in_ok-y-in-If.y.items = search rules in
    if_both c.chosen_set.result _ _ _ c.chosen_set.ensures.many c.chosen_set.ensures.bits (λ row many bits. set_if_arm c.args.at.now.model.now c.args.at.now.symbols.now c.args.at.now.given.now c.args.e.now c.get-in-If.result.now c.get-in-If-2.result.now c.get-in-If-3.result.now c.condition.new.table.items c.members-in-If.new.table.items c.members-in-If-2.new.table.items c.deref-in-If.result.now c.in_ok-held-in-If.held.items c.in_ok-x-in-If.x.items c.in_ok-y-in-If.y.items row.items form more last held left right c.deref-in-If.ensures.value many bits)

longer : (row new : List (List Term)) (p : List Term) (k : ℕ) → length row ≡ k → new ≡ row ++ p ∷ [] → length new ≡ k + 1
longer row new p k e h = ap length h ∙ length-append row (p ∷ []) ∙ ap (λ (n : ℕ). n + 1) e

pub failures-returns-in_err-failure-clause-grows : goal.failures-returns-in_err-failure-clause-grows
failures-returns-in_err-failure-clause-grows t c = λ k atom is. c.failure.ensures.grows k atom (c.loop-k.invariant.grows k atom is)

pub failures-returns-in_err-push-clause-grows : goal.failures-returns-in_err-push-clause-grows
failures-returns-in_err-push-clause-grows t c = λ k atom is. c.failure.ensures.grows k atom (c.loop-k.invariant.grows k atom is)

pub failures-loop-k-preserved : goal.failures-loop-k-preserved
failures-loop-k-preserved t c =
    let more : c.in_ok-more.more.items ≡ c.args.at.now.given.now ++ c.loop-k.k ∷ [] = search rules in
    let guard : slice_get c.args.guards.items c.loop-k.k ≡ Some c.index.result.now =
    slice_get_read c.args.guards.items (length c.args.guards.items) c.loop-k.k c.index.result.now refl (omega arith) c.index.ensures in
    let same : c.deref-in-loop-k.result.now ≡ c.index.result.now = search rules in
    let told : IsFailure c.args.at.now.model.now c.failure.new.table.items c.args.at.now.symbols.now c.deref.result.now c.args.c.now c.deref-in-loop-k.result.now c.in_ok-failure.field-0.items = search rules in
    let pushed : c.push.new.self.items ≡ c.loop-k.row.items ++ c.in_ok-failure.field-0.items ∷ [] = search rules in
    record {
      many = longer c.loop-k.row.items c.push.new.self.items c.in_ok-failure.field-0.items c.loop-k.k c.loop-k.invariant.many pushed;
      grows = λ k atom is. c.failure.ensures.grows k atom (c.loop-k.invariant.grows k atom is);
      value = subst (λ (row : List (List Term)). AreFailures c.args.at.now.model.now c.failure.new.table.items c.args.at.now.symbols.now c.args.at.now.given.now c.args.c.now c.args.guards.items row) (sym pushed)
          (failures_more c.args.at.now.model.now c.loop-k.table.items c.failure.new.table.items c.args.at.now.symbols.now c.args.at.now.given.now c.deref.result.now c.args.c.now c.args.guards.items c.loop-k.row.items c.loop-k.k c.deref-in-loop-k.result.now c.in_ok-failure.field-0.items
          c.failure.ensures.grows c.loop-k.invariant.many (c.deref.ensures.value ∙ more) (guard ∙ ap (λ (x : List Term). Some x) (sym same)) c.loop-k.invariant.value told);
    }
