use Rattle.std.proofs.Common.{sym, ◌∙◌}
use Rattle.dypdl_nodes.proofs.Numerals.{unread_is_unwritten}
use Rattle.dypdl_nodes.proofs.numbers.number_written.Goals as goal

pub returns-in_err-n : goal.returns-in_err-n
returns-in_err-n c =
    c.from_residual.ensures
    ∙ sym (unread_is_unwritten c.args.least c.args.most c.args.text.now c.parse.result c.ranges.least c.ranges.most (cc) c.parse.ensures.value.0 (sym c.ok.ensures.value ∙ c.in_err-n.was))
