use Rattle.std.proofs.lemmas.List.{take_rest}
use Rattle.yaml_scan.proofs.LineSteps.{line_at_is}
use Rattle.yaml_scan.proofs.scanning.line_at.Goals as goal

pub returns : goal.returns
returns c =
    let text = c.without_end-text.result.now in
    let indent = c.leading_spaces-indent.result in
    line_at_is c.args.number c.args.at c.args.line.now text _ indent c.trailing_blanks.result
    c.without_end-text.ensures.value c.leading_spaces-indent.ensures.value (take_rest text indent) c.trailing_blanks.ensures.value
