use Rattle.std.proofs.Common.{rules, arith, ◌≡◌, ◌∙◌, ◌+◌, ℕ, length, sym, ap}
use Rattle.std.proofs.lemmas.Bool.{eqb-true}
use Rattle.dp_model.specs.declared.trees.Cond as conds
use Rattle.dp_model.specs.declared.trees.Num as nums
use Rattle.dp_model.specs.declared.trees.SetEx as sets
use Rattle.dp_model.specs.Evaluation.{counts_of}
use Rattle.eval_room.proofs.Wholes.{op_serves, numbers_serve, is_in_serves, and_serves, or_serves, with_serves, without_serves, if_serves, choice_serves, set_op_serves, set_if_serves, all_serves, all_step, all_done, terms_step, terms_done, counts_end}
use Rattle.eval_room.proofs.needs.+need.Goals as goal

pub num_need-returns-in_ok-y-in-Op : goal.num_need-returns-in_ok-y-in-Op
num_need-returns-in_ok-y-in-Op t c =
    let p : nums.out-Num c.args.e.now ≡ nums.Num-F.Num::Op c.in-Op.field-0 c.get-in-Op.result.now c.get-in-Op-2.result.now = search (rules, nums.the_lemmas) in
    op_serves c.args.model.now c.args.given c.args.e.now c.in-Op.field-0 c.get-in-Op.result.now c.get-in-Op-2.result.now _ _ _ p c.max.ensures c.in_ok-x-in-Op.ensures c.in_ok-y-in-Op.ensures

pub cond_need-returns-in_ok-y-in-Numbers : goal.cond_need-returns-in_ok-y-in-Numbers
cond_need-returns-in_ok-y-in-Numbers t c =
    let p : conds.out-Cond c.args.e.now ≡ conds.Cond-F.Numbers c.in-Numbers.field-0 c.in-Numbers.a c.in-Numbers.b = search (rules, conds.the_lemmas) in
    numbers_serve c.args.model.now c.args.given c.args.e.now c.in-Numbers.field-0 c.in-Numbers.a c.in-Numbers.b _ _ _ p c.max.ensures c.in_ok-x-in-Numbers.ensures c.in_ok-y-in-Numbers.ensures

pub cond_need-returns-in_ok-y-in-IsIn : goal.cond_need-returns-in_ok-y-in-IsIn
cond_need-returns-in_ok-y-in-IsIn t c =
    let p : conds.out-Cond c.args.e.now ≡ conds.Cond-F.IsIn c.in-IsIn.n c.in-IsIn.a = search (rules, conds.the_lemmas) in
    is_in_serves c.args.model.now c.args.given c.args.e.now c.in-IsIn.n c.in-IsIn.a _ _ _ p c.max-in-IsIn.ensures c.in_ok-x-in-IsIn.ensures c.in_ok-y-in-IsIn.ensures

pub cond_need-returns-in_ok-y-in-And : goal.cond_need-returns-in_ok-y-in-And
cond_need-returns-in_ok-y-in-And t c =
    let p : conds.out-Cond c.args.e.now ≡ conds.Cond-F.And c.get-in-And.result.now c.get-in-And-2.result.now = search (rules, conds.the_lemmas) in
    and_serves c.args.model.now c.args.given c.args.e.now c.get-in-And.result.now c.get-in-And-2.result.now _ _ _ p c.max-in-And.ensures c.in_ok-x-in-And.ensures c.in_ok-y-in-And.ensures

pub cond_need-returns-in_ok-y-in-Or : goal.cond_need-returns-in_ok-y-in-Or
cond_need-returns-in_ok-y-in-Or t c =
    let p : conds.out-Cond c.args.e.now ≡ conds.Cond-F.Or c.get-in-Or.result.now c.get-in-Or-2.result.now = search (rules, conds.the_lemmas) in
    or_serves c.args.model.now c.args.given c.args.e.now c.get-in-Or.result.now c.get-in-Or-2.result.now _ _ _ p c.max-in-Or.ensures c.in_ok-x-in-Or.ensures c.in_ok-y-in-Or.ensures

pub set_need-returns-in_ok-y-in-With : goal.set_need-returns-in_ok-y-in-With
set_need-returns-in_ok-y-in-With t c =
    let p : sets.out-SetEx c.args.e.now ≡ sets.SetEx-F.With c.get-in-With.result.now c.get-in-With-2.result.now = search (rules, sets.the_lemmas) in
    with_serves c.args.model.now c.args.given c.args.e.now c.get-in-With.result.now c.get-in-With-2.result.now _ _ _ p c.max-in-With.ensures c.in_ok-x-in-With.ensures c.in_ok-y-in-With.ensures

pub set_need-returns-in_ok-y-in-Without : goal.set_need-returns-in_ok-y-in-Without
set_need-returns-in_ok-y-in-Without t c =
    let p : sets.out-SetEx c.args.e.now ≡ sets.SetEx-F.Without c.get-in-Without.result.now c.get-in-Without-2.result.now = search (rules, sets.the_lemmas) in
    without_serves c.args.model.now c.args.given c.args.e.now c.get-in-Without.result.now c.get-in-Without-2.result.now _ _ _ p c.max-in-Without.ensures c.in_ok-x-in-Without.ensures c.in_ok-y-in-Without.ensures

pub cond_need-returns-in_ok-z-in-If : goal.cond_need-returns-in_ok-z-in-If
cond_need-returns-in_ok-z-in-If t c =
    let p : conds.out-Cond c.args.e.now ≡ conds.Cond-F.Cond::If c.get-in-If.result.now c.get-in-If-2.result.now c.get-in-If-3.result.now = search (rules, conds.the_lemmas) in
    choice_serves c.args.model.now c.args.given c.args.e.now c.get-in-If.result.now c.get-in-If-2.result.now c.get-in-If-3.result.now _ _ _ _ _ p c.max-in-If.ensures c.max-in-If-2.ensures c.in_ok-x-in-If.ensures c.in_ok-y-in-If.ensures c.in_ok-z-in-If.ensures

pub num_need-returns-in_ok-z-in-If : goal.num_need-returns-in_ok-z-in-If
num_need-returns-in_ok-z-in-If t c =
    let p : nums.out-Num c.args.e.now ≡ nums.Num-F.Num::If c.get-in-If.result.now c.get-in-If-2.result.now c.get-in-If-3.result.now = search (rules, nums.the_lemmas) in
    if_serves c.args.model.now c.args.given c.args.e.now c.get-in-If.result.now c.get-in-If-2.result.now c.get-in-If-3.result.now _ _ _ _ _ p c.max-in-If.ensures c.max-in-If-2.ensures c.in_ok-x-in-If.ensures c.in_ok-y-in-If.ensures c.in_ok-z-in-If.ensures

pub cond_need-returns-then-is_over : goal.cond_need-returns-then-is_over
cond_need-returns-then-is_over t c =
    let p : conds.out-Cond c.args.e.now ≡ conds.Cond-F.All c.in-All.over c.get-in-All.result.now = search (rules, conds.the_lemmas) in
    all_serves c.args.model.now c.args.given c.args.e.now c.in-All.over c.get-in-All.result.now _ _ _ p (sym c.is_over.ensures ∙ c.if-is_over.true) c.in_ok-more-in-All.ensures.some c.in_ok-need-in-All.ensures c.sum-then-is_over.ensures.some

pub set_need-returns-then-same_object : goal.set_need-returns-then-same_object
set_need-returns-then-same_object t c =
    let p : sets.out-SetEx c.args.e.now ≡ sets.SetEx-F.SetEx::Op c.in-Op.field-0 c.get.result.now c.get-in-Op.result.now = search (rules, sets.the_lemmas) in
    let e : c.get-in-Op-2.result.now ≡ c.get.result.now = search rules in
    let f : c.get-in-Op-3.result.now ≡ c.get-in-Op.result.now = search rules in
    set_op_serves c.args.model.now c.args.given c.args.e.now c.in-Op.field-0 c.get.result.now c.get-in-Op.result.now _ _ _ p (rw (e, f) at (sym c.same_object.ensures ∙ c.if-same_object.true)) c.max.ensures c.in_ok-x-in-Op.ensures c.in_ok-y-in-Op.ensures

pub set_need-returns-then-same_object-2 : goal.set_need-returns-then-same_object-2
set_need-returns-then-same_object-2 t c =
    let p : sets.out-SetEx c.args.e.now ≡ sets.SetEx-F.SetEx::If c.get-in-If.result.now c.get-in-If-2.result.now c.get-in-If-3.result.now = search (rules, sets.the_lemmas) in
    let e : c.get-in-If-4.result.now ≡ c.get-in-If-2.result.now = search rules in
    let f : c.get-in-If-5.result.now ≡ c.get-in-If-3.result.now = search rules in
    set_if_serves c.args.model.now c.args.given c.args.e.now c.get-in-If.result.now c.get-in-If-2.result.now c.get-in-If-3.result.now _ _ _ _ _ p (rw (e, f) at (sym c.same_object-in-If.ensures ∙ c.if-same_object-2.true)) c.max-either.ensures c.max-most.ensures c.in_ok-x-in-If.ensures c.in_ok-y-in-If.ensures c.in_ok-z-in-If.ensures

pub all_need-loop-n-preserved : goal.all_need-loop-n-preserved
all_need-loop-n-preserved t c =
    let items : c.deref-n-items.result.now ≡ c.args.ns.now = search rules in
    all_step c.args.model.now c.args.given c.deref-n-items.result.now c.loop-n.n-index _ c.n-item.result c.loop-n.most _ _ c.loop-n-test.true c.n-item.is c.max-most.ensures c.in_ok-need.ensures c.loop-n.invariant

pub all_need-returns : goal.all_need-returns
all_need-returns t c =
    let items : c.deref-n-items.result.now ≡ c.args.ns.now = search rules in
    rw (← items) (all_done c.args.model.now c.args.given c.deref-n-items.result.now c.loop-n.n-index c.loop-n.most (omega arith) c.loop-n.invariant)

pub terms_need-loop-e-preserved : goal.terms_need-loop-e-preserved
terms_need-loop-e-preserved t c =
    rw c.after_first-left.ensures (terms_step c.args.model.now c.args.given (counts_of c.args.model.now c.args.objects.now) (counts_of c.args.model.now c.loop-e.left.now) _ c.deref-e-items.result.now c.loop-e.e-index _ c.e-item.result _ c.loop-e.used _ c.loop-e.most _ _ _ c.loop-e-test.true c.e-item.is c.in_ok-count.ensures.value (c.in_ok-used.ensures.some ∙ ap (λ (k : ℕ). c.loop-e.used + k) c.words_for.ensures) c.in_ok-sum.ensures.some c.max-most.ensures c.in_ok-need.ensures c.loop-e.invariant)

pub terms_need-returns-then-is_empty : goal.terms_need-returns-then-is_empty
terms_need-returns-then-is_empty t c =
    let items : c.deref-e-items.result.now ≡ c.args.terms.now = search rules in
    rw (← items) (terms_done c.args.model.now c.args.given (counts_of c.args.model.now c.args.objects.now) (counts_of c.args.model.now c.loop-e.left.now) c.deref-e-items.result.now c.loop-e.e-index c.loop-e.used c.loop-e.most (omega arith) (counts_end c.args.model.now c.args.given c.loop-e.left.now (eqb-true (length c.loop-e.left.now) 0 (sym c.is_empty.ensures ∙ c.if-is_empty.true))) c.loop-e.invariant)
