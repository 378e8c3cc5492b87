use Rattle.std.proofs.Common.{◌++◌, ◌∙◌, Option, ap, codes, decimal, sym}
use Rattle.dp_base.specs.Bytes.{line}
use Rattle.dp_model.specs.StepTexts.{step_text}
use Rattle.solve_report.proofs.Spelled.{two}
use Rattle.solve_report.proofs.Written.{Puts-same}
use Rattle.cert_text.specs.Texts.{made_line}
use Rattle.cert_types.specs.declared.nodes.CertStep.{CertStep}
use Rattle.cert_text.proofs.Spelled.{five_behind}
use Rattle.cert_text.proofs.writing.put_node.Goals as goal

pub returns-in-None : goal.returns-in-None
returns-in-None g c =
    let text = two (codes "node - ") c.flag_word.result.now ∙ ap (λ flag. codes "node - " ++ flag) c.flag_word.ensures in
    Puts-same (ap line (text ∙ ap (λ (made : Option CertStep). made_line c.args.model.now made c.args.node.cut) (sym c.in-None.is))) c.put_pieces.ensures

pub returns-in-Some : goal.returns-in-Some
returns-in-Some g c =
    let step = step_text c.args.model.now c.in-Some.step.dp_ground in
    let text = five_behind (codes "node ") (decimal c.from.result) (codes " ") c.flag_word-in-Some.result.now (codes " ") step
    ∙ ap (λ n. codes "node " ++ (decimal n ++ (codes " " ++ (c.flag_word-in-Some.result.now ++ (codes " " ++ step))))) c.from.ensures
    ∙ ap (λ flag. codes "node " ++ (decimal c.in-Some.step.parent ++ (codes " " ++ (flag ++ (codes " " ++ step))))) c.flag_word-in-Some.ensures in
    Puts-same (ap line (text ∙ ap (λ (made : Option CertStep). made_line c.args.model.now made c.args.node.cut) (sym c.in-Some.is))) c.put_step_behind.ensures
