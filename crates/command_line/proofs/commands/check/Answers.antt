use Rattle.std.proofs.Common.{rules, ◌∙◌, ap₂}
use Rattle.clap.specs.Words.{with_rule}
use Rattle.command_line.specs.Commands.{check}
use Rattle.command_line.proofs.commands.check.Goals as goal

pub returns : goal.returns
unfolding check
returns c =
    c.in_ok-arg-5.ensures.shape (search rules)
    ∙ ap₂ with_rule (c.in_ok-arg-4.ensures.shape (search rules)
    ∙ ap₂ with_rule (c.in_ok-arg-3.ensures.shape (search rules)
    ∙ ap₂ with_rule (c.in_ok-arg-2.ensures.shape (search rules)
    ∙ ap₂ with_rule (c.in_ok-arg.ensures.shape (search rules) ∙ ap₂ with_rule c.plain.ensures c.word.ensures.rule) c.word-2.ensures.rule) c.word-3.ensures.rule) c.option.ensures.rule) c.option-2.ensures.rule
