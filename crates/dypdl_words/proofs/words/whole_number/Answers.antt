use Rattle.std.proofs.Common.{sym, ◌∙◌}
use Rattle.dypdl_words.proofs.Numerals.{unread_is_out_of_range}
use Rattle.dypdl_words.proofs.words.whole_number.Goals as goal

pub returns-in_err-n : goal.returns-in_err-n
returns-in_err-n c =
    c.from_residual.ensures
    ∙ sym (unread_is_out_of_range c.args.word.now c.parse.result c.requires.some c.requires.digits c.parse.ensures.value.0 (sym c.ok.ensures.value ∙ c.in_err-n.was))
