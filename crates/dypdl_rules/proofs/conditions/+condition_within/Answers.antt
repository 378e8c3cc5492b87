use Rattle.std.proofs.Common.{◌≡◌, ◌∙◌, suc, arith, rules}
use Rattle.dp_base.specs.Results.{Refuses}
use Rattle.yaml_tree.specs.declared.tree.Tree as trees
use Rattle.dypdl_nodes.specs.Reads.{told}
use Rattle.dypdl_rules.specs.Conditions.{Quantifier, condition_within}
use Rattle.dypdl_rules.proofs.Nested.{inner_refused}
use Rattle.dypdl_rules.proofs.conditions.+condition_within.Goals as goal

pub returns-in_err-c-clause-condition : goal.returns-in_err-c-clause-condition
returns-in_err-c-clause-condition t c = λ read h.
    let l : c.args.levels ≡ suc c.in-Some.inner = omega (arith, c.in-Some.ensures) in
    let p : trees.out-Tree c.args.tree.now ≡ trees.Tree-F.Map c.in-Map.place c.in-Map.entries = search (rules, trees.the_lemmas) in
    let s : c.deref.result.now ≡ c.in-Map.entries = c.deref.ensures.value ∙ c.list.ensures in
    let q : Quantifier = record { params = c.in_ok-quantified.quantified.params.items; condition = c.in_ok-quantified.quantified.condition.now } in
    let k : Refuses (told c.in_err-c.field-0.0) (condition_within read c.args.declared.now.lists c.args.levels c.args.declared.now.params c.args.tree.now) =
    inner_refused read c.args.declared.now.lists c.in-Some.inner c.args.levels c.args.declared.now.params c.args.tree.now c.in-Map.place c.in-Map.entries q c.enter.new.declared (told c.in_err-c.field-0.0)
    l p (rw s at c.in_ok-quantified.ensures.quantifier) c.in_ok-quantified.ensures.entered (c.in_err-c.ensures.condition read h) in
    search (rules, k)
