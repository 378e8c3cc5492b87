use Rattle.std.proofs.Common.{rules, ◌∙◌, ap₂}
use Rattle.clap.specs.Words.{with_rule}
use Rattle.command_line.specs.Commands.{solve}
use Rattle.command_line.proofs.commands.solve.Goals as goal

pub returns : goal.returns
unfolding solve
returns c =
    c.in_ok-arg-10.ensures.shape (search rules)
    ∙ ap₂ with_rule (c.in_ok-arg-9.ensures.shape (search rules)
    ∙ ap₂ with_rule (c.in_ok-arg-8.ensures.shape (search rules)
    ∙ ap₂ with_rule (c.in_ok-arg-7.ensures.shape (search rules)
    ∙ ap₂ with_rule (c.in_ok-arg-6.ensures.shape (search rules)
    ∙ ap₂ with_rule (c.in_ok-arg-5.ensures.shape (search rules)
    ∙ ap₂ with_rule (c.in_ok-arg-4.ensures.shape (search rules)
    ∙ ap₂ with_rule (c.in_ok-arg-3.ensures.shape (search rules)
    ∙ ap₂ with_rule (c.in_ok-arg-2.ensures.shape (search rules)
    ∙ ap₂ with_rule (c.in_ok-arg.ensures.shape (search rules) ∙ ap₂ with_rule c.plain.ensures c.word.ensures.rule) c.word-2.ensures.rule) c.option.ensures.rule) c.option-2.ensures.rule) c.option-3.ensures.rule) c.option-4.ensures.rule) c.option-5.ensures.rule) c.option-6.ensures.rule) c.option-7.ensures.rule) c.option-8.ensures.rule
