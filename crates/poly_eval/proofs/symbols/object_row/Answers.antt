use Rattle.std.proofs.Common.{rules, ◌≡◌, ◌∙◌}
use Rattle.dp_model.specs.Evaluation.{count_of}
use Rattle.poly_eval.proofs.Steps.{if_both}
use Rattle.poly_eval.proofs.SetSteps.{all_bits}
use Rattle.poly_eval.proofs.symbols.object_row.Goals as goal

pub returns : goal.returns
returns c =
    let count : c.count_of.result ≡ count_of c.args.model.now c.args.object = search rules in
    if_both c.full_row.result _ _ _ c.full_row.ensures.many c.full_row.ensures.bits (λ row many bits v. all_bits v (count_of c.args.model.now c.args.object) row.items (many ∙ count) (bits v))
