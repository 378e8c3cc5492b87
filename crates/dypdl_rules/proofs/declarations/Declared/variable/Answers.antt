use Rattle.std.proofs.Common.{Some, sym, ap, ◌∙◌}
use Rattle.dypdl_words.specs.declared.scope.Named.{Named}
use Rattle.dypdl_rules.proofs.Names.{variable_means, table_means, nothing_means}
use Rattle.dypdl_rules.proofs.declarations.Declared.variable.Goals as goal

pub returns-in-Variable : goal.returns-in-Variable
returns-in-Variable c = rw (← c.self.view_is) (variable_means c.self.inside.scope.variables c.self.inside.scope.tables c.args.word.now _ _ (sym c.in-Some.ensures ∙ ap (λ (n : Named). Some n) c.in-Variable.is))

pub returns-in-Table : goal.returns-in-Table
returns-in-Table c = rw (← c.self.view_is) (table_means c.self.inside.scope.variables c.self.inside.scope.tables c.args.word.now _ _ (sym c.in-Some.ensures ∙ ap (λ (n : Named). Some n) c.in-Table.is))

pub returns-in_default : goal.returns-in_default
returns-in_default c = rw (← c.self.view_is) (nothing_means c.self.inside.scope.variables c.self.inside.scope.tables c.args.word.now (sym c.in_default.ensures))
