use Rattle.std.proofs.Common.{rules, ◌≡◌, sym, subst}
use Rattle.dp_model.specs.Evaluation.{range_of}
use Rattle.poly_eval.specs.Shows.{AreBits}
use Rattle.poly_eval.proofs.Steps.{if_ok}
use Rattle.dp_model.specs.declared.trees.Over.{Over}
use Rattle.dp_model.specs.declared.trees.Over.TheVariants as overs
use Rattle.poly_eval.proofs.symbols.range_row.Goals as goal

pub returns-in-Object : goal.returns-in-Object
returns-in-Object c =
    let is : c.args.over ≡ overs.Object c.in-Object.object = search rules in
    if_ok c.object_row.result _ _ c.object_row.ensures (λ row h v s state shows. subst (λ (over : Over). AreBits v row.items (range_of c.args.model.now s over)) (sym is) (h v))

pub returns-in-Members : goal.returns-in-Members
returns-in-Members c =
    let is : c.args.over ≡ overs.Members c.in-Members.place = search rules in
    if_ok c.set_variable.result _ _ c.set_variable.ensures.bits (λ row h v s state shows. subst (λ (over : Over). AreBits v row.items (range_of c.args.model.now s over)) (sym is) (h v s state shows))
